use Rattle.std.proofs.Common.{◌∙◌, ap}
use Rattle.octets.specs.Bits.{g}
use Rattle.gf128.proofs.WordLemmas.{block_product}
use Rattle.gf128.proofs.keyed.Multiply.times.Goals as goal

pub returns-clause-value : goal.returns-clause-value
returns-clause-value x c =
    block_product c.word_of.result c.times_word.result c.args.x.now (x.Self.Multiply.key_bytes c.args.self.now) c.block_of.result
    (c.word_of.ensures ∙ ap g c.bytes.ensures.value) c.times_word.ensures c.block_of.ensures.value
