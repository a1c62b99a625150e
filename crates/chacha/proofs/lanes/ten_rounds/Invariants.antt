use Rattle.std.proofs.Common.{◌≡◌, ℕ, ◌<◌}
use Rattle.chacha.specs.Block.{double_rounds}
use Rattle.chacha.specs.Code.Lanes.{lane}
use Rattle.chacha.proofs.lanes.ten_rounds.Given as goal

abbrev pub invariant-rounds : goal.invariant-rounds
invariant-rounds g l = ((j : ℕ) → j < g.row.N → lane j l.x ≡ double_rounds l.counter (lane j l.initial.x))
    × ((w : g.row.W.Denot) → g.W.Work.reaches w l.initial.own → g.W.Work.reaches w l.own)
