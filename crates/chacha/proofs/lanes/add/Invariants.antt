use Rattle.std.proofs.Common.{◌≡◌, ℕ, ◌<◌, ◌++◌, take, drop}
use Rattle.chacha.specs.Block.{added}
use Rattle.chacha.specs.Code.Lanes.{lane}
use Rattle.chacha.proofs.lanes.add.Given as goal

abbrev pub invariant-words : goal.invariant-words
invariant-words g l = (j : ℕ) → j < g.row.N
    → lane j l.x ≡ added (take l.i (lane j l.initial.x)) (take l.i (lane j l.start))
    ++ drop l.i (lane j l.initial.x)
