use Rattle.std.proofs.Common.{refl}
use Rattle.octets.proofs.failures.Failures.none.Goals as goal

pub returns : goal.returns
returns c = refl
