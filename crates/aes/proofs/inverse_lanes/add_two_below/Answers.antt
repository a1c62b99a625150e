use Rattle.std.proofs.Common.{get_or, bit_xor}
use Rattle.aes.proofs.FourBlocks.{via_two}
use Rattle.aes.proofs.InverseLanes.{own_lanes, turned, up, down}
use Rattle.aes.proofs.inverse_lanes.add_two_below.Goals as goal

pub returns : goal.returns
returns c =
    let a = c.args.near in
    turned c.sum-2.result a c.args.far
    (via_two bit_xor (λ i. bit_xor (get_or a i 0) (up c.args.far i)) (down c.args.far) c.sum-2.result c.sum.result
    c.two_rows_down.result c.sum-2.ensures
    (via_two bit_xor (λ i. get_or a i 0) (up c.args.far) c.sum.result a c.two_rows_up.result c.sum.ensures
    (own_lanes a c.fits-near.0) c.two_rows_up.ensures)
    c.two_rows_down.ensures)
