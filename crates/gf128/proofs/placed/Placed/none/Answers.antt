use Rattle.std.proofs.Common.{refl}
use Rattle.gf128.proofs.placed.Placed.none.Goals as goal

pub returns : goal.returns
returns g c = rw c.zero-zero.ensures refl
