use Rattle.std.proofs.Common.{rules}
use Rattle.aead.proofs.suite.Suite.name.Goals as goal

pub returns-in-Aes128GcmSiv : goal.returns-in-Aes128GcmSiv
returns-in-Aes128GcmSiv c = search rules
