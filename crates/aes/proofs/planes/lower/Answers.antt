use Rattle.std.proofs.Common.{refl}
use Rattle.aes.specs.declared.planes.TheConstants.{FIRST}
use Rattle.aes.proofs.BitPlanes.{moved}
use Rattle.aes.proofs.planes.lower.Goals as goal

pub returns : goal.returns
returns c = λ g held. moved 32 16 FIRST (λ l. l) refl refl c.args.p g held
