use Rattle.std.proofs.Common.{rules}
use Rattle.aead.proofs.any.AnyAead.new.Goals as goal

pub returns-in_ok-from_slice-in-ChaChaPoly : goal.returns-in_ok-from_slice-in-ChaChaPoly
returns-in_ok-from_slice-in-ChaChaPoly c = search rules
