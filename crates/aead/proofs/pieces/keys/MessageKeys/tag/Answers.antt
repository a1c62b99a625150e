use Rattle.std.proofs.Common.{ap, subst, ◌∙◌}
use Rattle.aead.specs.declared.pieces.keys.CipherKeys.{CipherKeys}
use Rattle.aead.specs.Suites.{Construction}
use Rattle.aead.specs.PassStates.{IsMessageSecret}
use Rattle.aead.specs.Code.MessageKeys.{construction_by, AreCipherKeys}
use Rattle.aead.proofs.pieces.keys.MessageKeys.tag.Goals as goal

pub returns-in-ChaCha : goal.returns-in-ChaCha
returns-in-ChaCha c = λ s bytes k h.
    let by = k.by ∙ ap construction_by c.in-ChaCha.is in
    c.hash_as_tag.ensures s bytes by (c.digest.ensures s bytes by h)

pub returns-in-Gcm : goal.returns-in-Gcm
returns-in-Gcm c = λ s bytes k h.
    let own = subst (λ (x : CipherKeys). AreCipherKeys x s) c.in-Gcm.is k.cipher in
    let by = k.by ∙ ap construction_by c.in-Gcm.is in
    let hash = subst (λ (x : Construction). IsMessageSecret x c.args.state.now.message_secret s) by h.secret_is in
    c.masked_tag.ensures s bytes by (c.tag_mask.ensures ∙ hash.1) (c.digest-digest.ensures s bytes by own h)

pub returns-in-Siv : goal.returns-in-Siv
returns-in-Siv c = λ s bytes k h.
    let own = subst (λ (x : CipherKeys). AreCipherKeys x s) c.in-Siv.is k.cipher in
    let by = k.by ∙ ap construction_by c.in-Siv.is in
    c.siv_tag.ensures s bytes by own (c.new.ensures.value ∙ k.nonce_is) (c.digest-digest-in-Siv.ensures s bytes by own h)
