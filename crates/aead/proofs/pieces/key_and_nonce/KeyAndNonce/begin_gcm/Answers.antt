use Rattle.std.proofs.Common.{refl, sym, ap, ◌∙◌}
use Rattle.aead.specs.Suites.{Construction}
use Rattle.aead.specs.Sealing.{Setting, hash_key}
use Rattle.aead.specs.KeyedPasses.{setting_of, cipher_key}
use Rattle.aead.proofs.KeyedPasses.{has_keys}
use Rattle.aead.proofs.pieces.key_and_nonce.KeyAndNonce.begin_gcm.Goals as goal

pub message_secret-requires : goal.message_secret-requires
message_secret-requires c = c.requires.ghash_key ∙ ap hash_key (sym c.requires.cipher)

pub returns : goal.returns
returns c = λ suite by long fits.
    let s : Setting = setting_of suite c.args.key.now c.args.nonce.now c.args.aad.now in (
      has_keys c.of.result s c.args.key.now (ap (λ (x : Construction). cipher_key x s) (sym by)) long long
          c.of.ensures.nonce_length c.of.ensures.key c.of.ensures.padded c.of.ensures.nonce,
      c.initial_state.ensures s by (c.message_secret.ensures s (sym c.requires.cipher) refl) refl fits,
    )
