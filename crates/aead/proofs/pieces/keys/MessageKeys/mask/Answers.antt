use Rattle.std.proofs.Common.{ap, arith, subst, sym, ◌∙◌}
use Rattle.aes.specs.declared.counter.KnownBlock.{KnownBlock}
use Rattle.aes.specs.Code.Streams.{KnowsCipher}
use Rattle.aead.specs.declared.pieces.keys.CipherKeys.{CipherKeys}
use Rattle.aead.specs.Suites.{Construction, text_limit_by}
use Rattle.aead.specs.KeyedPasses.{cipher_key}
use Rattle.aead.specs.Code.MessageKeys.{construction_by, AreCipherKeys}
use Rattle.aead.proofs.pieces.keys.MessageKeys.mask.Goals as goal

pub mask_chacha-requires : goal.mask_chacha-requires
mask_chacha-requires c =
    omega (arith, c.requires, ap (λ (x : CipherKeys). text_limit_by (construction_by x)) c.in-ChaCha.is)

pub mask-requires : goal.mask-requires
mask-requires c =
    omega (arith, c.requires, ap (λ (x : CipherKeys). text_limit_by (construction_by x)) c.in-Gcm.is)

pub mask-requires-in-Siv : goal.mask-requires-in-Siv
mask-requires-in-Siv c =
    omega (arith, c.requires, ap (λ (x : CipherKeys). text_limit_by (construction_by x)) c.in-Siv.is)

pub returns-in-ChaCha-clause-masks : goal.returns-in-ChaCha-clause-masks
returns-in-ChaCha-clause-masks c = λ s fed k long fits h knows.
    let own = subst (λ (x : CipherKeys). AreCipherKeys x s) c.in-ChaCha.is k.cipher in
    let m = c.mask_chacha.ensures.masks s c.args.tag.now fed (k.by ∙ ap construction_by c.in-ChaCha.is) own
    (c.new-nonce.ensures.value ∙ k.nonce_is) long fits h in
    (m.0, m.1, knows)

pub returns-in-Gcm-clause-masks : goal.returns-in-Gcm-clause-masks
returns-in-Gcm-clause-masks c = λ s fed k long fits h knows.
    let own = subst (λ (x : CipherKeys). AreCipherKeys x s) c.in-Gcm.is k.cipher in
    let by = k.by ∙ ap construction_by c.in-Gcm.is in
    let under = λ (b : KnownBlock) (x : Construction). KnowsCipher b (cipher_key x s) in
    let m = c.mask.ensures.masks s fed by own (c.new-nonce.ensures.value ∙ k.nonce_is) long fits h
    (subst (under c.args.known.now) by knows) in
    (m.0, m.1, subst (under c.mask.new.known) (sym by) m.2)

pub returns-in-Siv-clause-masks : goal.returns-in-Siv-clause-masks
returns-in-Siv-clause-masks c = λ s fed k long fits h knows.
    let own = subst (λ (x : CipherKeys). AreCipherKeys x s) c.in-Siv.is k.cipher in
    let by = k.by ∙ ap construction_by c.in-Siv.is in
    let under = λ (b : KnownBlock) (x : Construction). KnowsCipher b (cipher_key x s) in
    let m = c.mask-in-Siv.ensures.masks s fed by own (c.new-nonce.ensures.value ∙ k.nonce_is) long fits h
    (subst (under c.args.known.now) by knows) in
    (m.0, m.1, subst (under c.mask-in-Siv.new.known) (sym by) m.2)
