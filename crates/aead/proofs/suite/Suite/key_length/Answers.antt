use Rattle.std.proofs.Common.{rules}
use Rattle.aead.proofs.suite.Suite.key_length.Goals as goal

pub returns-in-Aes192Gcm : goal.returns-in-Aes192Gcm
returns-in-Aes192Gcm c = search rules
