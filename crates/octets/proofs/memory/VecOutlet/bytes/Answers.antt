use Rattle.std.proofs.Common.{rules}
use Rattle.octets.proofs.memory.VecOutlet.bytes.Goals as goal

pub returns : goal.returns
returns g c = search rules
