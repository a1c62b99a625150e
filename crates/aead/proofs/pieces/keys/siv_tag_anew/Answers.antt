use Rattle.std.proofs.Common.{◌∙◌}
use Rattle.aead.proofs.pieces.keys.siv_tag_anew.Goals as goal

pub returns : goal.returns
returns c = λ s m by key nonce digest.
    c.encrypted_tag.ensures s m by (c.schedule.ensures ∙ key) nonce digest
