use Rattle.std.proofs.Common.{get_or, ap, bit_xor}
use Rattle.aes.proofs.FourBlocks.{same_lanes}
use Rattle.aes.proofs.InverseLanes.{mixed_rows}
use Rattle.aes.proofs.inverse_lanes.mix.Goals as goal

pub returns : goal.returns
returns c =
    let next = c.unshift_next_rows-next in
    let own = c.unshift_rows-own in
    let made = same_lanes c.sum-2.result c.sum-2.ensures (λ i l. ap (bit_xor (get_or next.result i 0)) (c.sum.ensures.each i l)) in
    mixed_rows c.sum-2.result next.result own.result c.add_two_below.result c.add_two_below-2.result c.args.by14 c.args.by11
    c.args.by13 c.args.by9 c.args.key made next.ensures own.ensures c.add_two_below.ensures c.add_two_below-2.ensures
