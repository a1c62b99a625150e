use Rattle.std.proofs.Common.{◌∙◌, ap}
use Rattle.octets.specs.Bits.{g}
use Rattle.gf128.proofs.WordLemmas.{bytes_of_word}
use Rattle.gf128.proofs.table_mul.PlainMul.new.Goals as goal

pub invariant_of-result : goal.invariant_of-result
invariant_of-result c = record {
  filled = record {
    high_bytes = c.bytes_known.ensures.high;
    low_bytes = c.bytes_known.ensures.low;
    filled = rw (c.word_of.ensures ∙ ap g c.bytes.ensures.value) c.requires;
  };
}

pub returns : goal.returns
returns c =
    bytes_of_word c.word_of.result c.args.key.now c.bytes.ensures.are_bytes (c.word_of.ensures
    ∙ ap g c.bytes.ensures.value)
