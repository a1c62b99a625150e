use Rattle.std.proofs.Common.{◌≡◌, ℕ, ◌%◌, List, length}
use Rattle.octets.proofs.work.BlockWork.take_all.Given as goal

abbrev pub invariant-steps : goal.invariant-steps
invariant-steps g l = (length l.rest % 16 ≡ 0)
    × ((k m : List ℕ) → g.Self.BlockWork.comes_to l.initial.self l.initial.left k m
    → g.Self.BlockWork.comes_to l.self l.rest k m)

abbrev pub decreases-steps : goal.decreases-steps
decreases-steps g l = length l.rest
