use Rattle.std.proofs.Common.{◌*◌}
use Rattle.chacha.specs.Code.Lanes.{lane}
use Rattle.chacha.proofs.SideBySide.{Xored}
use Rattle.chacha.proofs.lanes.xor_eight_lanes.Given as goal

abbrev pub invariant-eights : goal.invariant-eights
invariant-eights l = Xored (lane 0 l.x) (8 * l.q) l.initial.first l.first
    × Xored (lane 1 l.x) (8 * l.q) l.initial.second l.second
    × Xored (lane 2 l.x) (8 * l.q) l.initial.third l.third
    × Xored (lane 3 l.x) (8 * l.q) l.initial.fourth l.fourth
    × Xored (lane 4 l.x) (8 * l.q) l.initial.fifth l.fifth
    × Xored (lane 5 l.x) (8 * l.q) l.initial.sixth l.sixth
    × Xored (lane 6 l.x) (8 * l.q) l.initial.seventh l.seventh
    × Xored (lane 7 l.x) (8 * l.q) l.initial.eighth l.eighth
