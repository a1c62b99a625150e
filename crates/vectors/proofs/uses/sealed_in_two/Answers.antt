use Rattle.std.proofs.Common.{◌++◌, ap, ◌∙◌}
use Rattle.aead.specs.AnyCiphers.{one_pass_keyed}
use Rattle.aead.specs.Ciphers.{setting}
use Rattle.vectors.proofs.uses.sealed_in_two.Goals as goal

-- both pieces are masked one after the other, and the tag is that of both
pub returns-in_ok-update-in-Ok-2 : goal.returns-in_ok-update-in-Ok-2
returns-in_ok-update-in-Ok-2 c =
    let s = setting (one_pass_keyed c.args.cipher.now) c.args.nonce.now c.args.aad.now in
    let join = c.pieces_make_a_sealing.ensures s in
    let one = c.in_ok-update-in-Ok.ensures.answer s _ c.in-Ok.ensures in
    let two = c.in_ok-update-in-Ok-2.ensures.answer s _ one.0 in
    let both = (join _ _ one.1).0 _ _ two.1 in
    ap (λ tag. (c.update.new.piece ++ c.update-in-Ok.new.piece) ++ tag) (c.finish.ensures s _ two.0)
    ∙ (join _ _ both).1
