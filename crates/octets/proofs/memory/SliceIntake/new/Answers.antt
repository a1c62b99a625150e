use Rattle.std.proofs.Common.{refl}
use Rattle.octets.proofs.memory.SliceIntake.new.Goals as goal

pub returns : goal.returns
returns c = refl
