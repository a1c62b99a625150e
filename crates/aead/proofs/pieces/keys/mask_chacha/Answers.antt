use Rattle.std.proofs.Common.{sym, ◌∙◌}
use Rattle.aead.proofs.pieces.keys.mask_chacha.Goals as goal

pub returns-clause-masks : goal.returns-clause-masks
returns-clause-masks c = λ s tag fed by key nonce.
    c.step.ensures.masks s tag fed by (c.mask_at-mask.ensures s tag by (sym (c.new.ensures.value ∙ key)) (sym nonce))
