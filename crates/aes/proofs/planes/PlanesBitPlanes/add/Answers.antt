use Rattle.aes.proofs.BitPlanes.{added}
use Rattle.aes.proofs.planes.PlanesBitPlanes.add.Goals as goal

pub returns : goal.returns
returns c = λ g h hp hq. added c.args.self c.args.other g h hp hq
