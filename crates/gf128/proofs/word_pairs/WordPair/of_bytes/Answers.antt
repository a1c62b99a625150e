use Rattle.std.proofs.Common.{rules}
use Rattle.gf128.proofs.word_pairs.WordPair.of_bytes.Goals as goal

pub invariant_of-result : goal.invariant_of-result
invariant_of-result c = record { is_pair = (search rules, λ i. search rules) }
