use Rattle.std.proofs.Common.{◌++◌, ap, sym, subst, ◌∙◌}
use Rattle.aead.specs.declared.pieces.keys.CipherKeys.{CipherKeys}
use Rattle.aead.specs.Suites.{construction_of}
use Rattle.aead.specs.Sealing.{mask_of}
use Rattle.aead.specs.PassStates.{HoldsNumbers}
use Rattle.aead.specs.Code.MessageKeys.{construction_by, AreCipherKeys}
use Rattle.aead.proofs.KeyedPasses.{siv_authenticated, length_authenticated}
use Rattle.aead.proofs.pieces.keys.MessageKeys.check.Goals as goal

pub returns-in-Siv : goal.returns-in-Siv
returns-in-Siv c = λ s body k fits h.
    let mask = mask_of s c.args.tag.now in
    let by = k.by ∙ ap construction_by c.in-Siv.is in
    let own = subst (λ (x : CipherKeys). AreCipherKeys x s) c.in-Siv.is k.cipher in
    let long = h.length_is ∙ length_authenticated (construction_of s.suite) mask body in
    subst (HoldsNumbers c.take_text.new.state s)
    (sym (siv_authenticated (construction_of s.suite) mask (body ++ c.args.piece.now) by))
    (c.take_text.ensures s body by own (c.new-nonce.ensures.value ∙ k.nonce_is) long fits
    (subst (HoldsNumbers c.args.state.now s) (siv_authenticated (construction_of s.suite) mask body by) h))
