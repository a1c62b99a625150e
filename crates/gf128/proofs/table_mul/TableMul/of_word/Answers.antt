use Rattle.gf128.proofs.table_mul.TableMul.of_word.Goals as goal

pub invariant_of-result : goal.invariant_of-result
invariant_of-result c = record {
  filled = record {
    high_bytes = c.bytes_known.ensures.high;
    low_bytes = c.bytes_known.ensures.low;
    filled = c.of-multiples.ensures;
  };
}
