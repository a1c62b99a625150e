use Rattle.std.proofs.Common.{◌/◌, ◌^◌, ◌∙◌, bit_and, get_or}
use Rattle.std.proofs.lemmas.Nat.{and_mask}
use Rattle.gf128.proofs.LookUps.{long_splat, at_splat}
use Rattle.gf128.proofs.nibbles.Nibbles.of.Goals as goal

pub invariant_of-result : goal.invariant_of-result
invariant_of-result c =
    let x = c.args.word in
    record {
      long_high = long_splat (λ a b. a / 2 ^ b) x.bytes 4 x.is_block.length_is;
      long_low = long_splat bit_and x.bytes 15 x.is_block.length_is;
      high_is = λ p l. at_splat (λ a b. a / 2 ^ b) x.bytes 4 p x.is_block.length_is l;
      low_is = λ p l. at_splat bit_and x.bytes 15 p x.is_block.length_is l ∙ and_mask (get_or x.bytes p 0) 4;
    }
