use Rattle.std.proofs.Common.{ap₂, ◌∙◌, ◌++◌, sym}
use Rattle.aead.proofs.DerivedKeys.{short_key}
use Rattle.aead.proofs.derived_keys.short_encryption_key.Goals as goal

pub returns : goal.returns
returns c =
    c.joined.ensures ∙ ap₂ (λ a b. a ++ b) c.at.ensures c.at-2.ensures
    ∙ sym (short_key c.args.parts.now.key.now c.args.parts.now.nonce.now c.requires)
