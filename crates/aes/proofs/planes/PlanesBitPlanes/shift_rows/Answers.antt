use Rattle.std.proofs.Common.{get_or, refl}
use Rattle.aes.specs.declared.planes.TheConstants.{SHIFTED}
use Rattle.aes.proofs.BitPlanes.{moved}
use Rattle.aes.proofs.planes.PlanesBitPlanes.shift_rows.Goals as goal

pub returns : goal.returns
returns c = λ g held. moved 32 32 SHIFTED (λ l. get_or SHIFTED l 0) refl refl c.args.self g held
