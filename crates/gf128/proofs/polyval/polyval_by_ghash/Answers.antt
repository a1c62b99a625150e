use Rattle.gf128.proofs.ByGhash as laws
use Rattle.gf128.proofs.polyval.polyval_by_ghash.Goals as goal

pub returns : goal.returns
returns c = laws.polyval_by_ghash
