use Rattle.aead.proofs.derived_keys.DerivedKeys.initial_state.Goals as goal

pub returns : goal.returns
returns c = λ s k aad fits. c.initial_state.ensures s k.by (c.message_secret.ensures s k.multiplier_key_is) aad fits
