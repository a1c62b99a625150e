use Rattle.std.proofs.Common.{rules}
use Rattle.octets.proofs.std_io.ToWriteOutlet.give.Goals as goal

pub returns-in-Ok-clause-bound : goal.returns-in-Ok-clause-bound
returns-in-Ok-clause-bound g c = search rules
