use Rattle.std.proofs.Common.{ltb-true, ◌%◌, get_or, bit_xor, ℕ, ◌/◌}
use Rattle.aes.specs.Code.Lanes.{byte_of, row_source, linear_sbox}
use Rattle.aes.proofs.FourBlocks.{via_two}
use Rattle.aes.proofs.FourRounds.{last_lanes}
use Rattle.aes.proofs.lanes.last.Goals as goal

pub returns : goal.returns
returns g c = λ f ws blocks held key.
    let few = ltb-true g.V.Lanes.count 65 g.met.V.Lanes.few in
    let k = c.args.key in
    let s : ℕ → ℕ = λ i. byte_of f (row_source i) in
    let made = c.substitute-plain.ensures s (λ i l. (blocks (row_source i / 16)).bytes (row_source i % 16)) held in
    last_lanes _ k f ws few key
    (via_two bit_xor (λ i. linear_sbox (s i)) (λ i. get_or k (i % 16) 0) _ _ _ c.sum.ensures made.0 c.copies.ensures)
