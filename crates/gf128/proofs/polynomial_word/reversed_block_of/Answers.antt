use Rattle.std.proofs.Common.{◌∙◌, ap}
use Rattle.octets.specs.Bits.{v}
use Rattle.gf128.proofs.WordLemmas.{v-to_le}
use Rattle.gf128.proofs.polynomial_word.reversed_block_of.Goals as goal

pub returns-clause-value : goal.returns-clause-value
returns-clause-value c = ap v (c.new.ensures.value ∙ c.le_bytes.ensures) ∙ v-to_le c.args.word
