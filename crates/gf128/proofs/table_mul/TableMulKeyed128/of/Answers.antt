use Rattle.std.proofs.Common.{◌∙◌, ap}
use Rattle.std.specs.Int.{w128, to_be_bytes}
use Rattle.octets.specs.Bits.{g}
use Rattle.gf128.proofs.WordLemmas.{bytes_of_word}
use Rattle.gf128.proofs.table_mul.TableMulKeyed128.of.Goals as goal

pub returns : goal.returns
returns c =
    ap (to_be_bytes w128) c.of_word.ensures
    ∙ bytes_of_word c.word_of.result c.args.key.now c.bytes.ensures.are_bytes (c.word_of.ensures
    ∙ ap g c.bytes.ensures.value)
