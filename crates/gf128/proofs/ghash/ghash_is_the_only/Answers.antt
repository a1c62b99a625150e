use Rattle.gf128.proofs.Sums as sums
use Rattle.gf128.proofs.ghash.ghash_is_the_only.Goals as goal

pub returns : goal.returns
returns c = sums.ghash_is_the_only
