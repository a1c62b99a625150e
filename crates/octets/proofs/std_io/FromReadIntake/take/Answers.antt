use Rattle.std.proofs.Common.{rules}
use Rattle.octets.proofs.std_io.FromReadIntake.take.Goals as goal

pub returns-in-Ok-clause-bytes : goal.returns-in-Ok-clause-bytes
returns-in-Ok-clause-bytes g c = search rules
