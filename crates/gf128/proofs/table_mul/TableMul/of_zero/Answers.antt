use Rattle.gf128.proofs.Entries.{zero_tables}
use Rattle.gf128.proofs.table_mul.TableMul.of_zero.Goals as goal

pub invariant_of-result : goal.invariant_of-result
invariant_of-result c = record { filled = rw c.zeros.ensures zero_tables }
