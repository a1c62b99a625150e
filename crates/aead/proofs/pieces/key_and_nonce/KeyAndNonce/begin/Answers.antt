use Rattle.std.proofs.Common.{◌∙◌}
use Rattle.aead.specs.KeyedPasses.{setting_of}
use Rattle.aead.proofs.ByteMasks.{masks_by_bytes}
use Rattle.aead.proofs.pieces.key_and_nonce.KeyAndNonce.begin.Goals as goal

pub returns-in_ok-key-in-ChaChaPoly-clause-bytes : goal.returns-in_ok-key-in-ChaChaPoly-clause-bytes
returns-in_ok-key-in-ChaChaPoly-clause-bytes c =
    masks_by_bytes (setting_of c.args.suite c.args.key.now c.args.nonce.now c.args.aad.now)
    (c.if-key-key_length.false ∙ c.key_length.ensures) (λ i. (c.type_inv.key i).fits)

pub returns-in-Gcm-clause-bytes : goal.returns-in-Gcm-clause-bytes
returns-in-Gcm-clause-bytes c =
    masks_by_bytes (setting_of c.args.suite c.args.key.now c.args.nonce.now c.args.aad.now)
    (c.if-key-key_length.false ∙ c.key_length.ensures) (λ i. (c.type_inv.key i).fits)

pub returns-in-GcmSiv-clause-bytes : goal.returns-in-GcmSiv-clause-bytes
returns-in-GcmSiv-clause-bytes c =
    masks_by_bytes (setting_of c.args.suite c.args.key.now c.args.nonce.now c.args.aad.now)
    (c.if-key-key_length.false ∙ c.key_length.ensures) (λ i. (c.type_inv.key i).fits)
