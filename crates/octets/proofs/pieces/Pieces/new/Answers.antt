use Rattle.std.proofs.Common.{[], refl}
use Rattle.octets.proofs.pieces.Pieces.new.Goals as goal

pub returns : goal.returns
returns g c = λ k held. c.resumed.ensures k [] held refl
