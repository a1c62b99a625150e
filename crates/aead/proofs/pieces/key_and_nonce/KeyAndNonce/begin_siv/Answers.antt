use Rattle.std.proofs.Common.{◌≡◌, length, refl, ap, ap₂, sym, subst, arith, inl, inr, ◌∙◌}
use Rattle.aes.specs.Cipher.{IsKey}
use Rattle.aead.specs.Suites.{key_length}
use Rattle.aead.specs.Sealing.{Setting, encryption_key}
use Rattle.aead.specs.KeyedPasses.{setting_of}
use Rattle.aead.proofs.KeyedPasses.{serves_under}
use Rattle.aead.proofs.pieces.key_and_nonce.KeyAndNonce.begin_siv.Goals as goal

pub returns-in-Aes128GcmSiv-clause-is_key : goal.returns-in-Aes128GcmSiv-clause-is_key
returns-in-Aes128GcmSiv-clause-is_key c =
    subst IsKey
    (c.short_encryption_key-key.ensures ∙ ap₂ encryption_key c.new-parts.ensures.key c.new-parts.ensures.nonce)
    (c.begin_derived.ensures.is_key (inl (omega arith)))

pub returns-in-Aes128GcmSiv-clause-holds : goal.returns-in-Aes128GcmSiv-clause-holds
returns-in-Aes128GcmSiv-clause-holds c =
    let s : Setting = setting_of c.args.suite c.args.cipher.now c.args.nonce.now c.args.aad.now in
    let key = c.new-parts.ensures.key in
    let nonce = c.new-parts.ensures.nonce in
    let long : length c.short_encryption_key-key.result ≡ 16 = omega arith in
    let serves = serves_under _ _ s.key s.nonce c.multiplier_key-multiplier_key.result key nonce
    (c.multiplier_key-multiplier_key.ensures.of_block, c.multiplier_key-multiplier_key.ensures.value) in
    c.begin_derived.ensures.holds s c.requires.by (long ∙ ap key_length (sym c.in-Aes128GcmSiv.is)) c.requires.long
    (c.short_encryption_key-key.ensures ∙ ap₂ encryption_key key nonce)
    serves refl refl c.requires.fits

pub returns-in-Aes256GcmSiv-clause-is_key : goal.returns-in-Aes256GcmSiv-clause-is_key
returns-in-Aes256GcmSiv-clause-is_key c =
    subst IsKey
    (c.long_encryption_key-key.ensures ∙ ap₂ encryption_key c.new-parts.ensures.key c.new-parts.ensures.nonce)
    (c.begin_derived-in-Aes256GcmSiv.ensures.is_key (inr (inr (omega arith))))

pub returns-in-Aes256GcmSiv-clause-holds : goal.returns-in-Aes256GcmSiv-clause-holds
returns-in-Aes256GcmSiv-clause-holds c =
    let s : Setting = setting_of c.args.suite c.args.cipher.now c.args.nonce.now c.args.aad.now in
    let key = c.new-parts.ensures.key in
    let nonce = c.new-parts.ensures.nonce in
    let long : length c.long_encryption_key-key.result ≡ 32 = omega arith in
    let serves = serves_under _ _ s.key s.nonce c.multiplier_key-multiplier_key.result key nonce
    (c.multiplier_key-multiplier_key.ensures.of_block, c.multiplier_key-multiplier_key.ensures.value) in
    c.begin_derived-in-Aes256GcmSiv.ensures.holds s c.requires.by (long ∙ ap key_length (sym c.in-Aes256GcmSiv.is))
    c.requires.long (c.long_encryption_key-key.ensures ∙ ap₂ encryption_key key nonce) serves refl refl c.requires.fits
