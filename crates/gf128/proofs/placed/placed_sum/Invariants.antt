use Rattle.std.proofs.Common.{◌≡◌, ◌+◌}
use Rattle.gf128.specs.Code.Words.{placed, total}
use Rattle.gf128.proofs.placed.placed_sum.Given as goal

abbrev pub invariant-low : goal.invariant-low
invariant-low g l = total (g.L.Lanes.value l.sum.low) (g.L.Lanes.value l.sum.middle) (g.L.Lanes.value l.sum.high)
    ≡ placed (g.P.Parts.parts l.words) l.j

abbrev pub invariant-high : goal.invariant-high
invariant-high g l = total (g.L.Lanes.value l.sum.low) (g.L.Lanes.value l.sum.middle) (g.L.Lanes.value l.sum.high)
    ≡ placed (g.P.Parts.parts l.words) (l.j + 8)
