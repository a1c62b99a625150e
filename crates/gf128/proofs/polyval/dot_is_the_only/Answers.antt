use Rattle.gf128.proofs.PolyvalSums as sums
use Rattle.gf128.proofs.polyval.dot_is_the_only.Goals as goal

pub returns : goal.returns
returns c = sums.dot_is_the_only
