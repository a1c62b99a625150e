use Rattle.std.proofs.Common.{refl}
use Rattle.octets.proofs.words.be_bytes.Goals as goal

pub returns : goal.returns
returns c = rw c.lanes_of.ensures refl
