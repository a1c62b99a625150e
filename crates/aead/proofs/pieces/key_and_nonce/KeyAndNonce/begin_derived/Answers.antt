use Rattle.std.proofs.Common.{length, sym, ap, ◌∙◌}
use Rattle.aead.specs.Suites.{Construction}
use Rattle.aead.specs.KeyedPasses.{cipher_key}
use Rattle.aead.proofs.KeyedPasses.{has_keys}
use Rattle.aead.proofs.pieces.key_and_nonce.KeyAndNonce.begin_derived.Goals as goal

pub returns-clause-is_key : goal.returns-clause-is_key
returns-clause-is_key c = λ long. record { length_is = long; bytes = λ i. (c.type_inv.key i).fits }

pub returns-clause-holds : goal.returns-clause-holds
returns-clause-holds c = λ s by long key_fits key serves nonce aad fits. (
  has_keys c.of.result s c.args.key.now (key ∙ ap (λ (x : Construction). cipher_key x s) (sym by)) long key_fits
      (ap length nonce ∙ c.of.ensures.nonce_length) c.of.ensures.key c.of.ensures.padded (c.of.ensures.nonce ∙ sym nonce),
  c.initial_state.ensures s by (c.message_secret.ensures s serves) aad fits,
)
