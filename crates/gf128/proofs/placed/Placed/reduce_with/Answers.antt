use Rattle.std.proofs.Common.{ℕ, ◌≡◌, ◌/◌, ◌%◌, ◌^◌, ◌∙◌, ap, ap₂, bit_xor, sym}
use Rattle.octets.specs.Bytes.{le}
use Rattle.gf128.specs.Code.Words.{folded_wide, total}
use Rattle.gf128.proofs.LaneWords.{le_block}
use Rattle.gf128.proofs.Moves.{total_last, total_below, total_above}
use Rattle.gf128.proofs.placed.Placed.reduce_with.Goals as goal

pub returns : goal.returns
returns g c =
    let first = c.sum-first.result in
    let a : ℕ = le first.bytes in
    let b : ℕ = le c.sum-second.result.bytes in
    let third : ℕ = le c.sum-third.result.bytes in
    let fourth : ℕ = le c.sum-fourth.result.bytes in
    let h : ℕ = bit_xor third fourth in
    let fold : ℕ → ℕ = λ (f : ℕ). bit_xor f (bit_xor (f / 2 ^ 1) (bit_xor (f / 2 ^ 2) (f / 2 ^ 7))) in
    let low : le c.xor-low.result.bytes ≡ total a b h % 2 ^ 128 =
    c.xor-low.ensures ∙ ap (bit_xor a) c.half_up-above.ensures ∙ sym (total_below a b h (le_block first.bytes first.is_block)) in
    let high : le c.xor-high.result.bytes ≡ total a b h / 2 ^ 128 =
    c.xor-high.ensures ∙ ap₂ bit_xor c.half_down-below.ensures c.xor-last.ensures
    ∙ sym (total_above a b h (le_block first.bytes first.is_block)) in
    rw (c.sum-first.ensures, c.sum-second.ensures, c.sum-third.ensures, c.sum-fourth.ensures) at
    (c.xor.ensures ∙ ap₂ bit_xor high (c.folded-fold.ensures ∙ ap fold low) ∙ ap folded_wide (total_last a b third fourth))
