use Rattle.std.proofs.Common.{ap₂, ◌∙◌, ◌++◌, sym}
use Rattle.aead.proofs.DerivedKeys.{long_key}
use Rattle.aead.proofs.derived_keys.long_encryption_key.Goals as goal

pub returns : goal.returns
returns c =
    c.joined.ensures
    ∙ ap₂ (λ a b. a ++ b)
    (c.joined-first.ensures ∙ ap₂ (λ a b. a ++ b) c.at.ensures c.at-2.ensures)
    c.last_parts.ensures
    ∙ sym (long_key c.args.parts.now.key.now c.args.parts.now.nonce.now c.requires)
