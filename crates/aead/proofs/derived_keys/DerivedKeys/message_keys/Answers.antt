use Rattle.std.proofs.Common.{ℕ, List, sym, subst, ◌∙◌}
use Rattle.gf128.specs.Orders.{Reversed, Serves}
use Rattle.aead.specs.Sealing.{authentication_key}
use Rattle.aead.proofs.derived_keys.DerivedKeys.message_keys.Goals as goal

pub returns-clause-keys : goal.returns-clause-keys
returns-clause-keys c = λ s k multiplier nonce.
    record {
      by = k.by;
      cipher = (
        k.encryption_is,
        subst (λ (x : List ℕ). Serves Reversed (authentication_key s.key s.nonce) x) (sym multiplier) k.multiplier_key_is,
      );
      nonce_is = c.bytes.ensures.value ∙ nonce;
    }
