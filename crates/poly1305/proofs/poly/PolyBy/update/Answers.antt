use Rattle.std.proofs.Common.{rules}
use Rattle.poly1305.proofs.poly.PolyBy.update.Goals as goal

pub returns : goal.returns
returns g c = search rules
