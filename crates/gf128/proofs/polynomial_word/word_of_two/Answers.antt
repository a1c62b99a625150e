use Rattle.std.proofs.Common.{◌<◌, ◌^◌, ◌*◌, ◌+◌, ◌∙◌, ap, sym, arith, List, ℕ, reverse, rules}
use Rattle.octets.specs.Bits.{g}
use Rattle.octets.proofs.Numbers.{le_of_two}
use Rattle.gf128.proofs.WordLemmas.{g-to_be}
use Rattle.gf128.proofs.polynomial_word.word_of_two.Goals as goal

pub returns : goal.returns
returns c =
    let a : ℕ = c.args.first in
    let b : ℕ = c.args.second in
    let first : a < 2 ^ 64 = search rules in
    let second : b < 2 ^ 64 = search rules in
    let n : ℕ = c.from.result * 2 ^ 64 + c.from-2.result in
    sym (g-to_be n)
    ∙ ap (λ (bs : List ℕ). g (reverse bs)) (le_of_two b a n second first (omega (arith, c.from.ensures, c.from-2.ensures)))
