use Rattle.std.proofs.Common.{rules}
use Rattle.octets.proofs.memory.SliceIntakeIntake.take.Goals as goal

pub returns-clause-all : goal.returns-clause-all
returns-clause-all c = search rules
