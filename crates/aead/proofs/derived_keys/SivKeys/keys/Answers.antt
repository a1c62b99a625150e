use Rattle.aead.proofs.derived_keys.SivKeys.keys.Goals as goal

pub returns-clause-keys : goal.returns-clause-keys
returns-clause-keys c = λ s k. c.message_keys.ensures.keys s k.derived k.multiplier_is k.nonce_is
