use Rattle.std.proofs.Common.{◌*◌}
use Rattle.chacha.specs.Code.Lanes.{lane}
use Rattle.chacha.proofs.SideBySide.{Xored}
use Rattle.chacha.proofs.lanes.xor_lanes.Given as goal

abbrev pub invariant-quads : goal.invariant-quads
invariant-quads l = Xored (lane 0 l.x) (4 * l.q) l.initial.first l.first
    × Xored (lane 1 l.x) (4 * l.q) l.initial.second l.second
    × Xored (lane 2 l.x) (4 * l.q) l.initial.third l.third
    × Xored (lane 3 l.x) (4 * l.q) l.initial.fourth l.fourth
