use Rattle.std.proofs.Common.{◌≡◌, ◌<◌, ◌^◌, ◌++◌, ◌+◌, ◌*◌, ◌∙◌, ℕ, List, length, ap₂, sym, refl, arith, rules}
use Rattle.std.specs.Int.{w64, to_le_bytes}
use Rattle.octets.specs.Bytes.{le, pad16}
use Rattle.octets.proofs.Numbers.{le_two}
use Rattle.octets.proofs.Texts.{holds_blocks, whole_padded}
use Rattle.poly1305.specs.Code.States.{PolySumHolds}
use Rattle.poly1305.proofs.poly.PolyBy.pad16_and_add_two.Goals as goal

pub returns : goal.returns
returns g c = λ k m held.
    let a : ℕ = c.args.first in
    let b : ℕ = c.args.second in
    let first : a < 2 ^ 64 = search rules in
    let second : b < 2 ^ 64 = search rules in
    let block : List ℕ = to_le_bytes w64 a ++ to_le_bytes w64 b in
    let long : length block ≡ 16 = refl in
    let spelled : c.from.result + c.from-2.result * 2 ^ 64 ≡ le block =
    ap₂ (λ (x y : ℕ). x + y * 2 ^ 64) c.from.ensures c.from-2.ensures ∙ sym (le_two a b first second) in
    let padded = c.pad16.ensures k m held in
    let none : c.pad16.new.self.used ≡ 0 = omega (arith, padded.rest.used_is, whole_padded m) in
    holds_blocks (PolySumHolds g.M.Multiplier.factor) c.pad16.new.self _ k (pad16 m) block block padded
    (omega (arith, none)) (rw none refl)
    (λ j t whole before. c.absorb_number.ensures j t block whole long spelled before) none padded.zeros
