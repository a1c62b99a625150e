use Rattle.std.proofs.Common.{ap, ◌∙◌}
use Rattle.aes.specs.Cipher.{cipher}
use Rattle.aead.specs.Sealing.{hash_key}
use Rattle.aead.proofs.gcm.hash_subkey.Goals as goal

pub returns-clause-value : goal.returns-clause-value
unfolding hash_key
returns-clause-value c = c.encrypt_in_registers.ensures.value ∙ ap (cipher c.args.key.now) c.new.ensures.value
