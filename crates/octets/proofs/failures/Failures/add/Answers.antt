use Rattle.std.proofs.Common.{rules}
use Rattle.octets.proofs.failures.Failures.add.Goals as goal

pub returns : goal.returns
returns c = search rules
