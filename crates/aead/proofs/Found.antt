-- A valid sealing is refused only with `OutOfMemory`.
use Rattle.std.proofs.Common.{◌≡◌, ◌≤◌, ℕ, List, [], ◌∷◌, ◌++◌, length, refl, arith, length-append}
use Rattle.std.proofs.Common.{Result, Ok, Err, MatchResult}
use Rattle.octets.specs.declared.fault.Fault.{Fault}
use Rattle.octets.specs.declared.fault.Fault.TheVariants.{KeyLength, NonceLength, TextTooLong, AadTooLong}
use Rattle.octets.specs.declared.fault.Fault.TheVariants.{TooShort, TagMismatch, WrapLength, WrapIntegrity}
use Rattle.octets.specs.declared.fault.Fault.TheVariants.{OutOfMemory, StreamEnd, Read, Write, SourceChanged}
use Rattle.octets.specs.Refusals.{Check, ◌unless◌}
use Rattle.octets.proofs.Refusals.{passed}
use Rattle.aead.specs.Suites.{text_limit, aad_limit}
use Rattle.aead.specs.Sealing.{Setting, Opened, IsSealing, HasOneText}
use Rattle.aead.specs.Refusals.{OpenRefused, WholeOpenRefused}

-- the only fault whose cause fits a valid sealing is `OutOfMemory`
refused_only : HasOneText → (s : Setting) (sealed text : List ℕ) → Opened s sealed text → (e : Fault)
    → WholeOpenRefused s sealed e → e ≡ OutOfMemory
refused_only law s sealed text o AadTooLong h = absurd (h o.fits.aad_fits)
refused_only law s sealed text o TooShort h = let long = (law s sealed text o).0 in absurd (h.1 (omega arith))
refused_only law s sealed text o TextTooLong h =
    let long = (law s sealed text o).0 in let fits = o.fits.text_fits in absurd (h.1.1 (omega arith))
refused_only law s sealed text o TagMismatch h = absurd (h.1.1.1 (text, o))
refused_only law s sealed text o OutOfMemory h = refl
refused_only law s sealed text o KeyLength h = absurd h.1.1.1.1
refused_only law s sealed text o NonceLength h = absurd h.1.1.1.1
refused_only law s sealed text o WrapLength h = absurd h.1.1.1.1
refused_only law s sealed text o WrapIntegrity h = absurd h.1.1.1.1
refused_only law s sealed text o StreamEnd h = absurd h.1.1.1.1
refused_only law s sealed text o Read h = absurd h.1.1.1.1
refused_only law s sealed text o Write h = absurd h.1.1.1.1
refused_only law s sealed text o SourceChanged h = absurd h.1.1.1.1

-- so if a text was sealed, it is returned, or an allocation failed
pub found : {T : Type 0} (items : T → List ℕ) → HasOneText
    → (s : Setting) (sealed : List ℕ) (r : Result T Fault)
    → MatchResult r (λ v. Opened s sealed (items v)) (λ e. WholeOpenRefused s sealed e)
    → (text : List ℕ) → Opened s sealed text → MatchResult r (λ v. items v ≡ text) (λ e. e ≡ OutOfMemory)
found items law s sealed (Ok v) m text o = (law s sealed text o).1 (items v) m
found items law s sealed (Err e) m text o = refused_only law s sealed text o e m

-- every check of opening in place passes for a valid sealing
never_refused : HasOneText → (s : Setting) (body tag text : List ℕ) → length tag ≡ 16
    → Opened s (body ++ tag) text → (e : Fault) → OpenRefused s body tag e → ⊥
never_refused law s body tag text long o e h =
    let size = (law s (body ++ tag) text o).0 in
    let fits : length body ≤ text_limit s.suite =
    omega (arith, size, length-append body tag, long, o.fits.text_fits) in
    let of_tag : List Check = TagMismatch unless IsSealing s (body ++ tag) ∷ [] in
    passed TagMismatch (IsSealing s (body ++ tag)) [] e (text, o)
    (passed TextTooLong (length body ≤ text_limit s.suite) of_tag e fits
    (passed AadTooLong (length s.aad ≤ aad_limit s.suite)
    (TextTooLong unless (length body ≤ text_limit s.suite) ∷ of_tag) e o.fits.aad_fits h))

-- a valid sealing is opened in place, to its text
pub found_in_place : HasOneText → (s : Setting) (body tag opened : List ℕ) (r : Result (Unit {0}) Fault)
    → length tag ≡ 16
    → MatchResult r (λ _. Opened s (body ++ tag) opened) (λ e. OpenRefused s body tag e × (opened ≡ body))
    → (text : List ℕ) → Opened s (body ++ tag) text → MatchResult r (λ _. opened ≡ text) (λ _. ⊥)
found_in_place law s body tag opened (Ok v) long m text o = (law s (body ++ tag) text o).1 opened m
found_in_place law s body tag opened (Err e) long m text o = never_refused law s body tag text long o e m.0
