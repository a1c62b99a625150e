use Rattle.std.proofs.Common.{get_or, refl}
use Rattle.aes.specs.declared.planes.TheConstants.{TWO_BELOW}
use Rattle.aes.proofs.BitPlanes.{moved}
use Rattle.aes.proofs.planes.PlanesBitPlanes.two_below.Goals as goal

pub returns : goal.returns
returns c = λ g held. moved 32 32 TWO_BELOW (λ l. get_or TWO_BELOW l 0) refl refl c.args.self g held
