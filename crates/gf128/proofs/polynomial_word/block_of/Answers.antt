use Rattle.std.proofs.Common.{◌∙◌, ap}
use Rattle.octets.specs.Bits.{g}
use Rattle.gf128.proofs.WordLemmas.{g-to_be}
use Rattle.gf128.proofs.polynomial_word.block_of.Goals as goal

pub returns-clause-value : goal.returns-clause-value
returns-clause-value c = ap g (c.new.ensures.value ∙ c.be_bytes.ensures) ∙ g-to_be c.args.word
