use Rattle.std.proofs.Common.{rules}
use Rattle.vectors.specs.Code.Steps.{value_at}
use Rattle.vectors.proofs.place.value_at.Goals as goal

pub returns-else-eq : goal.returns-else-eq
unfolding value_at
returns-else-eq c = search rules
