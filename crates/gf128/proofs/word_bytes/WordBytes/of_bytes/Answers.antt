use Rattle.std.proofs.Common.{rules}
use Rattle.gf128.proofs.word_bytes.WordBytes.of_bytes.Goals as goal

pub invariant_of-result : goal.invariant_of-result
invariant_of-result c = record { is_block = record { length_is = search rules; bytes = λ i. search rules } }
