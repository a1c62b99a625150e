use Rattle.std.proofs.Common.{◌≡◌, ℕ, ◌<◌, length}
use Rattle.gf128.proofs.PairedTables.{IsBeside}
use Rattle.gf128.proofs.paired.PairTables.of.Given as goal

abbrev pub invariant-tables : goal.invariant-tables
invariant-tables l = (length l.high ≡ 16) × (length l.low ≡ 16) × ((k : ℕ) → k < l.j
    → (IsBeside l.high l.first.high l.second.high k) × (IsBeside l.low l.first.low l.second.low k))
