use Rattle.std.proofs.Common.{◌+◌, refl}
use Rattle.aes.specs.declared.planes.TheConstants.{SECOND}
use Rattle.aes.proofs.BitPlanes.{moved}
use Rattle.aes.proofs.planes.upper.Goals as goal

pub returns : goal.returns
returns c = λ g held. moved 32 16 SECOND (λ l. 16 + l) refl refl c.args.p g held
