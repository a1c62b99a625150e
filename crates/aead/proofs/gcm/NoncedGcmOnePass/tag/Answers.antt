use Rattle.std.proofs.Common.{ap, ◌∙◌}
use Rattle.aes.specs.Cipher.{cipher}
use Rattle.aead.specs.Sealing.{j0}
use Rattle.aead.specs.KeyedPasses.{setting_of}
use Rattle.aead.proofs.gcm.NoncedGcmOnePass.tag.Goals as goal

pub returns : goal.returns
unfolding j0
returns g c = λ aad m digest.
    let n = c.args.self.now in
    let gcm = n.cipher.now in
    c.masked_tag.ensures (setting_of gcm.suite gcm.key.now n.nonce.now aad) m gcm.by_gcm
    (c.encrypt_in_registers-mask.ensures.value ∙ ap (cipher gcm.key.now) c.nonce_and_counter.ensures.value) digest
