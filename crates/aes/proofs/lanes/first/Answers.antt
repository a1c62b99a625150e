use Rattle.std.proofs.Common.{◌%◌, get_or, bit_xor}
use Rattle.aes.specs.Code.Lanes.{in_basis, byte_of, row_source}
use Rattle.aes.proofs.FourBlocks.{via, via_two}
use Rattle.aes.proofs.FourRounds.{brought_lanes, source_in, first_lanes}
use Rattle.aes.proofs.lanes.first.Goals as goal

pub returns : goal.returns
returns g c = λ f ws held key.
    let n = g.V.Lanes.count in
    let k = c.args.key in
    first_lanes _ k f ws key
    (via in_basis (λ i. bit_xor (byte_of f (row_source i)) (get_or k (row_source i % 16) 0)) _ _ c.to_basis.ensures
    (brought_lanes (λ i. bit_xor (byte_of f i) (get_or k (i % 16) 0)) row_source _ _ c.shift_rows.ensures
    (via_two bit_xor (byte_of f) (λ i. get_or k (i % 16) 0) _ _ _ c.sum.ensures held c.copies.ensures)
    (λ i l. source_in n i g.met.V.Lanes.whole l)))
