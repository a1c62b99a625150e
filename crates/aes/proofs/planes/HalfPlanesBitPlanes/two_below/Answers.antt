use Rattle.std.proofs.Common.{get_or, refl}
use Rattle.aes.specs.declared.planes.TheConstants.{TWO_BELOW, HALF_TWO_BELOW}
use Rattle.aes.proofs.BitPlanes.{moved}
use Rattle.aes.proofs.planes.HalfPlanesBitPlanes.two_below.Goals as goal

pub returns : goal.returns
returns c = λ g held. moved 16 16 HALF_TWO_BELOW (λ l. get_or TWO_BELOW l 0) refl refl c.args.self g held
