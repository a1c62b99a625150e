use Rattle.gf128.proofs.PolyvalSums as sums
use Rattle.gf128.proofs.polyval.polyval_is_the_only.Goals as goal

pub returns : goal.returns
returns c = sums.polyval_is_the_only
