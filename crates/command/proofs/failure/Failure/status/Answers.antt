use Rattle.std.proofs.Common.{rules}
use Rattle.command.proofs.failure.Failure.status.Goals as goal

pub returns-in-Words : goal.returns-in-Words
returns-in-Words c = search rules
