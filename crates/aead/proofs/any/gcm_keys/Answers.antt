use Rattle.std.proofs.Common.{ap}
use Rattle.aead.specs.Suites.{is_one_pass}
use Rattle.aead.specs.Ciphers.{setting}
use Rattle.aead.proofs.ByteMasks.{mask_small}
use Rattle.aead.proofs.any.gcm_keys.Goals as goal

pub returns : goal.returns
returns c = λ aad.
    let s = setting c.args.cipher.now c.args.nonce.now aad in
    let by = c.keys.ensures.by in (
      record { by = by; cipher = (c.keys.ensures.key, c.requires); nonce_is = c.bytes.ensures.value },
      λ tag i. mask_small s tag (ap is_one_pass by) (λ e. c.keys.ensures.is_key) i,
      ap is_one_pass by,
    )
