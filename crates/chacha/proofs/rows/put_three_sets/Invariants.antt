use Rattle.std.proofs.Common.{◌≡◌, ℕ, ◌<◌}
use Rattle.chacha.specs.Block.{double_rounds}
use Rattle.chacha.proofs.rows.put_three_sets.Given as goal

abbrev pub invariant-rounds : goal.invariant-rounds
invariant-rounds g l =
    ((n : ℕ) → n < g.R.Rows.COUNT → g.R.Rows.state l.x n ≡ double_rounds l._round (g.R.Rows.state l.initial.x n))
    × ((n : ℕ) → n < g.R.Rows.COUNT → g.R.Rows.state l.y n ≡ double_rounds l._round (g.R.Rows.state l.initial.y n))
    × ((n : ℕ) → n < g.R.Rows.COUNT → g.R.Rows.state l.z n ≡ double_rounds l._round (g.R.Rows.state l.initial.z n))
    × ((w : g.row.W.Denot) → g.W.Work.reaches w l.initial.own → g.W.Work.reaches w l.own)
