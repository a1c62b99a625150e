use Rattle.std.proofs.Common.{refl}
use Rattle.capi.proofs.key.aeadkit_key_size.Goals as goal

pub returns : goal.returns
returns c = refl
