use Rattle.std.proofs.Common.{◌≡◌, ℕ, ◌<◌}
use Rattle.chacha.specs.Block.{double_rounds}
use Rattle.chacha.specs.Code.Lanes.{lane}
use Rattle.chacha.specs.Code.Rows.{state_in}
use Rattle.chacha.proofs.row_beside.ten_rounds.Given as goal

abbrev pub invariant-rounds : goal.invariant-rounds
invariant-rounds g l = ((j : ℕ) → j < 4 → lane j l.x ≡ double_rounds l.counter (lane j l.initial.x))
    × (state_in l.row 0 ≡ double_rounds l.counter (state_in l.initial.row 0))
    × ((w : g.row.W.Denot) → g.W.Work.reaches w l.initial.own → g.W.Work.reaches w l.own)
