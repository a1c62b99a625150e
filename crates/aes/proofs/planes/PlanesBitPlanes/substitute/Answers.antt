use Rattle.aes.proofs.Circuit.{substituted}
use Rattle.aes.proofs.planes.PlanesBitPlanes.substitute.Goals as goal

pub returns : goal.returns
returns c = λ g small held. substituted 32 c.args.self g small held
