use Rattle.std.proofs.Common.{ltb-true, ◌%◌, get_or, bit_xor, ℕ, ◌/◌}
use Rattle.aes.specs.Field.{times}
use Rattle.aes.specs.Code.Lanes.{in_basis, byte_of, row_source, row_below, row_above, linear_sbox}
use Rattle.aes.proofs.FourBlocks.{via_two}
use Rattle.aes.proofs.FourRounds.{brought_lanes, source_in, below_in, above_in, round_lanes}
use Rattle.aes.proofs.lanes.round.Goals as goal

pub returns : goal.returns
returns g c = λ f ws blocks bytes held key.
    let n = g.V.Lanes.count in
    let few = ltb-true n 65 g.met.V.Lanes.few in
    let whole = g.met.V.Lanes.whole in
    let k = c.args.key in
    let s : ℕ → ℕ = λ i. byte_of f (row_source i) in
    let one : ℕ → ℕ = λ i. in_basis (linear_sbox (s i)) in
    let two : ℕ → ℕ = λ i. in_basis (times 2 (linear_sbox (s i))) in
    let upper : ℕ → ℕ = λ i. bit_xor (two i) (one (row_below i)) in
    let below : ℕ → ℕ = λ i. row_below (row_source i) in
    let above : ℕ → ℕ = λ i. row_above (row_source i) in
    let key_lane : ℕ → ℕ = λ i. get_or k (i % 16) 0 in
    let made = c.substitute-once.ensures s (λ i l. (blocks (row_source i / 16)).bytes (row_source i % 16)) held in
    let upper_is = via_two bit_xor two (λ i. one (row_below i)) _ _ _ c.sum-upper.ensures made.2
    (brought_lanes one row_below _ _ c.rows_up.ensures made.1 (λ i l. below_in n i whole l)) in
    let lower_is = via_two bit_xor (λ i. one (above i)) key_lane _ _ _ c.sum-lower.ensures
    (brought_lanes one above _ _ c.shifted_down.ensures made.1
    (λ i l. above_in n (row_source i) whole (source_in n i whole l))) c.copies.ensures in
    let first_is = brought_lanes upper row_source _ _ c.shift_rows.ensures upper_is (λ i l. source_in n i whole l) in
    let last_is = brought_lanes upper below _ _ c.shifted_up.ensures upper_is
    (λ i l. below_in n (row_source i) whole (source_in n i whole l)) in
    round_lanes _ k f ws few whole blocks bytes key
    (via_two bit_xor (λ i. bit_xor (upper (row_source i)) (bit_xor (one (above i)) (key_lane i))) (λ i. upper (below i))
    _ _ _ c.sum-2.ensures
    (via_two bit_xor (λ i. upper (row_source i)) (λ i. bit_xor (one (above i)) (key_lane i)) _ _ _ c.sum.ensures
    first_is lower_is) last_is)
