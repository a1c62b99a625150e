use Rattle.std.proofs.Common.{get_or, refl}
use Rattle.aes.specs.declared.planes.TheConstants.{SHIFTED, HALF_SHIFTED}
use Rattle.aes.proofs.BitPlanes.{moved}
use Rattle.aes.proofs.planes.HalfPlanesBitPlanes.shift_rows.Goals as goal

pub returns : goal.returns
returns c = λ g held. moved 16 16 HALF_SHIFTED (λ l. get_or SHIFTED l 0) refl refl c.args.self g held
