use Rattle.std.proofs.Common.{◌%◌, refl}
use Rattle.aes.specs.declared.planes.TheConstants.{TWICE}
use Rattle.aes.proofs.BitPlanes.{moved}
use Rattle.aes.proofs.planes.PlanesBitPlanes.from_half.Goals as goal

pub returns : goal.returns
returns c = λ g held. moved 16 32 TWICE (λ l. l % 16) refl refl c.args.half g held
