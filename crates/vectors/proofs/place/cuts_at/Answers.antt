use Rattle.std.proofs.Common.{rules}
use Rattle.vectors.specs.Code.Steps.{cuts_at}
use Rattle.vectors.proofs.place.cuts_at.Goals as goal

pub returns-then-are_cuts : goal.returns-then-are_cuts
unfolding cuts_at
returns-then-are_cuts c = search rules
