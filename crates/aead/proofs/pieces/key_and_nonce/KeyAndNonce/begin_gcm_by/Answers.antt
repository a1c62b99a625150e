use Rattle.aead.specs.KeyedPasses.{setting_of}
use Rattle.aead.proofs.ByteMasks.{masks_by_bytes}
use Rattle.aead.proofs.pieces.key_and_nonce.KeyAndNonce.begin_gcm_by.Goals as goal

pub returns-clause-bytes : goal.returns-clause-bytes
returns-clause-bytes c =
    masks_by_bytes (setting_of c.args.suite c.args.key.now c.args.nonce.now c.args.aad.now) c.requires.long (λ i. (c.type_inv.key i).fits)
