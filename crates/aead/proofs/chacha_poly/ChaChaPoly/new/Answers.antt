use Rattle.std.proofs.Common.{refl}
use Rattle.aead.proofs.chacha_poly.ChaChaPoly.new.Goals as goal

pub returns : goal.returns
returns c = refl
