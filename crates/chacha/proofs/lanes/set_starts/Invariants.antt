use Rattle.std.proofs.Common.{◌≡◌, ℕ, ◌<◌, length, take}
use Rattle.chacha.specs.Code.Lanes.{lane}
use Rattle.chacha.proofs.lanes.set_starts.Given as goal

abbrev pub invariant-words : goal.invariant-words
invariant-words g l = (length l.x ≡ 16) × ((j : ℕ) → j < g.row.N → take l.i (lane j l.x) ≡ take l.i l.state)
