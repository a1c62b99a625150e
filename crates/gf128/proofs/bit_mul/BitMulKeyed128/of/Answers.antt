use Rattle.std.proofs.Common.{◌∙◌, ap}
use Rattle.octets.specs.Bits.{g}
use Rattle.gf128.proofs.WordLemmas.{bytes_of_word}
use Rattle.gf128.proofs.bit_mul.BitMulKeyed128.of.Goals as goal

pub returns : goal.returns
returns c = bytes_of_word c.word_of.result c.args.key.now c.bytes.ensures.are_bytes (c.word_of.ensures
    ∙ ap g c.bytes.ensures.value)
