use Rattle.std.proofs.Common.{◌≡◌, length}
use Rattle.std.specs.Prelude.{◌==◌}
use Rattle.std.specs.List.{slice_split}
use Rattle.vectors.specs.Cuts.{rise, are_cuts}
use Rattle.vectors.proofs.cuts.are_cuts.Given as goal

abbrev pub invariant-parts : goal.invariant-parts
invariant-parts l = are_cuts l.fn.most l.fn.value ≡ rise l.fn.most l.last (slice_split (λ b. b == 44) l.rest)

abbrev pub decreases-parts : goal.decreases-parts
decreases-parts l = length l.rest
