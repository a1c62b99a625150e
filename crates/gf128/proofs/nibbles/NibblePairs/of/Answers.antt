use Rattle.std.proofs.Common.{◌≡◌, ℕ, ◌/◌, ◌%◌, ◌^◌, ◌++◌, List, length, bit_and, get_or, ap, ◌∙◌}
use Rattle.std.proofs.lemmas.Nat.{and_mask}
use Rattle.gf128.proofs.Pairs.{long_splat32, at_splat32}
use Rattle.gf128.proofs.nibbles.NibblePairs.of.Goals as goal

pub invariant_of-result : goal.invariant_of-result
invariant_of-result c =
    let x = c.args.first in
    let y = c.args.second in
    let pair : List ℕ = c.of-pair.result.bytes in
    let is : pair ≡ x.bytes ++ y.bytes = c.of-pair.ensures in
    let long : length pair ≡ 32 = c.of-pair.result.is_pair.0 in
    record {
      long_high = long_splat32 (λ a b. a / 2 ^ b) pair 4 long;
      long_low = long_splat32 bit_and pair 15 long;
      high_is = λ p l. at_splat32 (λ a b. a / 2 ^ b) pair 4 p long l ∙ ap (λ (l : List ℕ). get_or l p 0 / 16) is;
      low_is = λ p l. at_splat32 bit_and pair 15 p long l ∙ and_mask (get_or pair p 0) 4 ∙ ap (λ (l : List ℕ). get_or l p 0 % 16) is;
    }
