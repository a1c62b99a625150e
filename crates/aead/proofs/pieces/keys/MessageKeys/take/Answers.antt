use Rattle.std.proofs.Common.{ap, subst, ◌∙◌}
use Rattle.aead.specs.declared.pieces.keys.CipherKeys.{CipherKeys}
use Rattle.aead.specs.Code.MessageKeys.{construction_by, AreCipherKeys}
use Rattle.aead.proofs.pieces.keys.MessageKeys.take.Goals as goal

pub returns-in-ChaCha-clause-takes : goal.returns-in-ChaCha-clause-takes
returns-in-ChaCha-clause-takes c = λ s bytes k.
    c.take.ensures.takes s bytes (k.by ∙ ap construction_by c.in-ChaCha.is)

pub returns-in-Gcm-clause-takes : goal.returns-in-Gcm-clause-takes
returns-in-Gcm-clause-takes c = λ s bytes k.
    let own = subst (λ (x : CipherKeys). AreCipherKeys x s) c.in-Gcm.is k.cipher in
    c.take-in-Gcm.ensures.takes s bytes (k.by ∙ ap construction_by c.in-Gcm.is) own

pub returns-in-Siv-clause-takes : goal.returns-in-Siv-clause-takes
returns-in-Siv-clause-takes c = λ s bytes k.
    let own = subst (λ (x : CipherKeys). AreCipherKeys x s) c.in-Siv.is k.cipher in
    c.take-in-Siv.ensures.takes s bytes (k.by ∙ ap construction_by c.in-Siv.is) own
