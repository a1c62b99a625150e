use Rattle.aes.proofs.BitPlanes.{both}
use Rattle.aes.proofs.planes.both_halves.Goals as goal

pub returns : goal.returns
returns c = λ g low high. both c.args.p c.args.q g low high
