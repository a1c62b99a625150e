use Rattle.aes.proofs.Tables.{inverse_law}
use Rattle.aes.proofs.laws.inverse_is_the_only.Goals as goal

pub returns : goal.returns
returns c = inverse_law
