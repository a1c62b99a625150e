use Rattle.aes.proofs.BitPlanes.{twice}
use Rattle.aes.proofs.planes.PlanesBitPlanes.double.Goals as goal

pub returns : goal.returns
returns c = λ g small h. twice c.args.self g small h
