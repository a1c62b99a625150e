use Rattle.std.proofs.Common.{◌≡◌, ℕ, ◌+◌, ◌-◌, ◌*◌, ◌/◌, ◌%◌, ◌^◌, ◌<◌, ◌∙◌, ap, ap₂, sym, subst, bit_xor, arith}
use Rattle.octets.specs.Bytes.{le}
use Rattle.gf128.specs.Code.Words.{folded_wide, IsMoved}
use Rattle.gf128.proofs.LaneWords.{le_block}
use Rattle.gf128.proofs.Moves.{fallen_out, moved_back}
use Rattle.gf128.proofs.Placings.{moved_folded}
use Rattle.gf128.proofs.word_bytes.WordBytes.times_power.Goals as goal

pub returns : goal.returns
returns c =
    let n : ℕ = le c.args.self.bytes in
    let i : ℕ = c.args.count in
    let s : ℕ = 64 + (64 - i) in
    let at : s + i ≡ 128 = omega (arith, c.requires.within) in
    let small : n < 2 ^ 128 = le_block c.args.self.bytes c.args.self.is_block in
    let fold : ℕ → ℕ = λ (f : ℕ). bit_xor f (bit_xor (f / 2 ^ 1) (bit_xor (f / 2 ^ 2) (f / 2 ^ 7))) in
    let out : le c.half_up-out.result.bytes ≡ n * 2 ^ s % 2 ^ 128 =
    c.half_up-out.ensures ∙ ap (λ (x : ℕ). x * 2 ^ 64 % 2 ^ 128) c.up.ensures.shifted ∙ fallen_out n (64 - i) small in
    let all : le c.xor.result.bytes ≡ folded_wide (n * 2 ^ s) =
    c.xor.ensures ∙ ap₂ bit_xor (c.shifted_down.ensures ∙ sym (moved_back n s i 128 at)) (c.folded-fold.ensures ∙ ap fold out) in
    subst (IsMoved i n) (sym all) (moved_folded n s i at (omega (arith, c.requires.within)) small)
