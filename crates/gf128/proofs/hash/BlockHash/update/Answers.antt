use Rattle.std.proofs.Common.{rules}
use Rattle.gf128.proofs.hash.BlockHash.update.Goals as goal

pub returns : goal.returns
returns g c = search rules
