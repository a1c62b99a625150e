use Rattle.std.proofs.Common.{get_or, refl}
use Rattle.aes.specs.declared.planes.TheConstants.{SHIFTED_OUT, HALF_SHIFTED_OUT}
use Rattle.aes.proofs.BitPlanes.{moved}
use Rattle.aes.proofs.planes.HalfPlanesBitPlanes.shift_out.Goals as goal

pub returns : goal.returns
returns c = λ g held. moved 16 16 HALF_SHIFTED_OUT (λ l. get_or SHIFTED_OUT l 0) refl refl c.args.self g held
