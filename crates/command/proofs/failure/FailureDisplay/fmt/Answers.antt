use Rattle.std.proofs.Common.{rules}
use Rattle.command.proofs.failure.FailureDisplay.fmt.Goals as goal

pub returns-in-UnknownSuite-clause-writes : goal.returns-in-UnknownSuite-clause-writes
returns-in-UnknownSuite-clause-writes g c = search rules
