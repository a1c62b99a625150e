-- Why opening in place fails once all lengths fit.
use Rattle.std.proofs.Common.{◌≡◌, ◌≤◌, List, ℕ, [], ◌∷◌, ◌++◌, length, refl}
use Rattle.octets.specs.declared.fault.Fault.{Fault}
use Rattle.octets.specs.declared.fault.Fault.TheVariants.{KeyLength, NonceLength, TextTooLong, AadTooLong}
use Rattle.octets.specs.declared.fault.Fault.TheVariants.{TooShort, TagMismatch, WrapLength, WrapIntegrity}
use Rattle.octets.specs.declared.fault.Fault.TheVariants.{OutOfMemory, StreamEnd, Read, Write, SourceChanged}
use Rattle.octets.specs.Refusals.{Check, ◌unless◌, FirstOf}
use Rattle.octets.proofs.Refusals.{passed}
use Rattle.aead.specs.Suites.{key_length, text_limit, aad_limit}
use Rattle.aead.specs.Sealing.{Setting, Fits, IsSealing}
use Rattle.aead.specs.KeyedPasses.{HasLengths}
use Rattle.capi.specs.Whole.{BodyRefused}

-- if the tag is all that is checked, the fault is that of the tag
only : (p : Type 0) (e : Fault) → FirstOf (TagMismatch unless p ∷ []) e → (e ≡ TagMismatch) × ¬ p
only p TagMismatch h = (refl, h)
only p KeyLength h = absurd h.1
only p NonceLength h = absurd h.1
only p TextTooLong h = absurd h.1
only p AadTooLong h = absurd h.1
only p TooShort h = absurd h.1
only p WrapLength h = absurd h.1
only p WrapIntegrity h = absurd h.1
only p OutOfMemory h = absurd h.1
only p StreamEnd h = absurd h.1
only p Read h = absurd h.1
only p Write h = absurd h.1
only p SourceChanged h = absurd h.1

-- if all lengths fit, opening in place is refused only with `TagMismatch`
pub wrong_tag : (s : Setting) (body tag : List ℕ) (e : Fault) → HasLengths s → Fits s body → BodyRefused s body tag e
    → (e ≡ TagMismatch) × ¬ IsSealing s (body ++ tag)
wrong_tag s body tag e lengths fits h =
    let of_tag : List Check = TagMismatch unless IsSealing s (body ++ tag) ∷ [] in
    let of_text : List Check = TextTooLong unless (length body ≤ text_limit s.suite) ∷ of_tag in
    let of_aad : List Check = AadTooLong unless (length s.aad ≤ aad_limit s.suite) ∷ of_text in
    let of_nonce : List Check = NonceLength unless (length s.nonce ≡ 12) ∷ of_aad in
    only (IsSealing s (body ++ tag)) e
    (passed TextTooLong (length body ≤ text_limit s.suite) of_tag e fits.text_fits
    (passed AadTooLong (length s.aad ≤ aad_limit s.suite) of_text e fits.aad_fits
    (passed NonceLength (length s.nonce ≡ 12) of_aad e lengths.nonce_fits
    (passed KeyLength (length s.key ≡ key_length s.suite) of_nonce e lengths.key_fits h))))
