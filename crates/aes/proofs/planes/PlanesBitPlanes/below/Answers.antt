use Rattle.std.proofs.Common.{get_or, refl}
use Rattle.aes.specs.declared.planes.TheConstants.{BELOW}
use Rattle.aes.proofs.BitPlanes.{moved}
use Rattle.aes.proofs.planes.PlanesBitPlanes.below.Goals as goal

pub returns : goal.returns
returns c = λ g held. moved 32 32 BELOW (λ l. get_or BELOW l 0) refl refl c.args.self g held
