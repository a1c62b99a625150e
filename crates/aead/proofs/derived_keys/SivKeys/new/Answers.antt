use Rattle.std.proofs.Common.{refl}
use Rattle.aead.proofs.derived_keys.SivKeys.new.Goals as goal

pub returns : goal.returns
returns c = λ aad.
    record {
      derived = record {
        by = c.derive-derived.ensures.by;
        encryption_is = c.derive-derived.ensures.encryption;
        multiplier_key_is = (c.derive-derived.ensures.block, c.derive-derived.ensures.multiplier_key);
      };
      multiplier_is = c.of.ensures;
      nonce_is = refl;
    }
