use Rattle.std.proofs.Common.{ℕ, ◌<◌, get_or}
use Rattle.gf128.specs.Code.Words.{table_at}
use Rattle.gf128.proofs.tables.PlainMultiples.bytes_known.Given as goal

abbrev pub invariant-tables : goal.invariant-tables
invariant-tables l = (k n : ℕ) → k < l.j → (get_or (table_at l.self.high k) n 0 < 256) × (get_or (table_at l.self.low k) n 0 < 256)
