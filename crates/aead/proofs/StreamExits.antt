-- The exits of the stream opener, each with its result.
use Rattle.std.proofs.Common.{◌≡◌, ℕ, List, [], ◌≤◌, ◌<◌, ◌+◌, ◌-◌, ◌⊎◌, inl, inr, length, take, drop, refl}
use Rattle.std.proofs.Common.{ap, ◌∙◌, sym, arith, Option, Some, None, Result, Ok, Err, subst, IfSome}
use Rattle.std.proofs.lemmas.Bool.{le-leb}
use Rattle.std.proofs.lemmas.List.{take_all, length-drop}
use Rattle.std.specs.Io.KnownBytes.{Appends}
use Rattle.octets.specs.declared.fault.Fault.{Fault}
use Rattle.octets.specs.declared.fault.Fault.TheVariants.{TagMismatch, Read, Write, AadTooLong, TextTooLong}
use Rattle.octets.specs.declared.fault.Fault.TheVariants.{TooShort, SourceChanged}
use Rattle.octets.specs.Device.{Failed}
use Rattle.octets.specs.Masked.{masked}
use Rattle.octets.proofs.Devices.{appends_none}
use Rattle.aead.specs.declared.engine.measure.Measured.{Measured}
use Rattle.aead.specs.declared.engine.passes.Finding.{Finding}
use Rattle.aead.specs.declared.engine.passes.Finding.TheVariants.{Differs, Unsealed, Sealed}
use Rattle.aead.specs.Suites.{text_limit, aad_limit}
use Rattle.aead.specs.Sealing.{Setting, Opened, IsSealing, mask_of}
use Rattle.aead.specs.Refusals.{FitsSealed}
use Rattle.aead.specs.Measure.{last_16}
use Rattle.aead.specs.Code.Findings.{IsFinding}
use Rattle.aead.specs.Code.Returns.{MeasureReturns, VerifyReturns, WriteReturns, verify_answer, write_answer}
use Rattle.aead.specs.Verdict.{Agrees, OnlyWriteDiffers, Verdict, shown, FailureCounts, OpensStream}
use Rattle.aead.specs.Verdict.{IfAllKnown}

-- ---- how the engine tests that two readings agree

pub agrees_from : (m x : List ℕ) → 16 ≤ length m → drop (length m - 16) x ≡ last_16 m → Agrees m x
agrees_from m x low e =
    let size : length x ≡ length m =
    omega (arith, ap length e, length-drop (length m - 16) x, length-drop (length m - 16) m, low) in
    (size, ap (λ n. drop (n - 16) x) size ∙ e)

agrees_to : (m x : List ℕ) → Agrees m x → drop (length m - 16) x ≡ last_16 m
agrees_to m x a = ap (λ n. drop (n - 16) x) (sym a.0) ∙ a.1

-- within the limits, the bytes that may be written are the body of the write reading, masked for the measured tag
pub shown_is : (s : Setting) (m w : List ℕ) → length m ≤ text_limit s.suite + 16
    → shown s m w ≡ masked (mask_of s (last_16 m)) 0 (take (length m - 16) w)
unfolding shown
shown_is s m w fits = rw (le-leb (length m) (text_limit s.suite + 16) fits) refl

-- ---- if the bytes of the devices are known

pub if_known : (lm lv lw o o' : Option (List ℕ)) (A B C : List ℕ → Type 0)
    (Q : List ℕ → List ℕ → List ℕ → List ℕ → Type 0) →
    IfSome lm A → IfSome lv B → IfSome lw C →
    ((m v w : List ℕ) → A m → B v → C w → (given : List ℕ) × Appends o o' given × Q m v w given)
    → IfAllKnown lm lv lw o o' Q
if_known None lv lw o o' A B C Q a b d f = tt
if_known (Some m) None lw o o' A B C Q a b d f = tt
if_known (Some m) (Some v) None o o' A B C Q a b d f = tt
if_known (Some m) (Some v) (Some w) None o' A B C Q a b d f = tt
if_known (Some m) (Some v) (Some w) (Some x) o' A B C Q a b d f = f m v w a b d

-- the empty condition holds of the bytes of every device
pub any_bytes : (l : Option (List ℕ)) → IfSome l (λ _. Unit {0})
any_bytes None = tt
any_bytes (Some x) = tt

-- ---- nothing was written

opens_nothing : (s : Setting) (m v w : List ℕ) (before after : FailureCounts) (f : Fault) →
    (f ≡ SourceChanged → OnlyWriteDiffers s m v w → ⊥) →
    (Verdict s m v w (Err f) × (after ≡ before))
    ⊎ ((f ≡ Read) × (Failed before.measure after.measure ⊎ Failed before.verify after.verify
    ⊎ Failed before.write after.write)) →
    OpensStream s m v w [] before after (Err f)
opens_nothing s m v w before after f not_last answer =
    record {
      early = λ ne. absurd (ne refl);
      beginning = (0, refl);
      whole = λ h. elim h [
        | inl e ↦ absurd (cc)
        | inr e ↦ absurd
            (let p : f ≡ SourceChanged = cc (e.0) in not_last p e.1)
      ];
      text = λ e. absurd (cc);
      answer = elim answer [ inl a ↦ inl a | inr a ↦ inr (inl (ap Err a.0, a.1)) ];
    }

-- the verdict of a fault is the verdict of an equal fault
verdict_at : (s : Setting) (m v w : List ℕ) (f g : Fault) → f ≡ g → Verdict s m v w (Err g)
    → Verdict s m v w (Err f)
verdict_at s m v w f g e h = let P : Fault → Type 0 = λ x. Verdict s m v w (Err x) in subst P (sym e) h

-- the result if the associated data is too long
opens_aad : (s : Setting) (m v w : List ℕ) (before : FailureCounts) → aad_limit s.suite < length s.aad
    → OpensStream s m v w [] before before (Err AadTooLong)
opens_aad s m v w before a =
    opens_nothing s m v w before before AadTooLong (λ e _. absurd (cc)) (inl (a, refl))

-- the result if the measure reading is refused
opens_measure : (s : Setting) (m v w : List ℕ) (x x' y z u : ℕ) (f : Fault)
    → length s.aad ≤ aad_limit s.suite → MeasureReturns (text_limit s.suite) m x x' (Err f) →
    OpensStream s m v w [] (record { measure = x; verify = y; write = z; outlet = u })
    (record { measure = x'; verify = y; write = z; outlet = u }) (Err f)
opens_measure s m v w x x' y z u f a told =
    let counts : ℕ → FailureCounts = λ n. record { measure = n; verify = y; write = z; outlet = u } in
    elim told [
      | inl long ↦ opens_nothing s m v w (counts x) (counts x') f
          (λ e _. absurd (let p : TextTooLong ≡ SourceChanged = sym long.0 ∙ e in cc))
          (inl (verdict_at s m v w f TextTooLong long.0 (a, long.1), ap counts long.2))
      | inr rest ↦ elim rest [
        | inl short ↦ opens_nothing s m v w (counts x) (counts x') f
            (λ e _. absurd (let p : TooShort ≡ SourceChanged = sym short.0 ∙ e in cc))
            (inl (verdict_at s m v w f TooShort short.0 (a, short.1), ap counts short.2))
        | inr failed ↦ opens_nothing s m v w (counts x) (counts x') f
            (λ e _. absurd (let p : Read ≡ SourceChanged = sym failed.0 ∙ e in cc))
            (inr (failed.0, inl failed.1))
      ]
    ]

-- the length and the tag with which the verify step was called are the measured ones
verify_at : (s : Setting) (m v tag : List ℕ) (len y y' : ℕ) (r : Result (Unit {0}) Fault) → len ≡ length m
    → tag ≡ last_16 m →
    VerifyReturns s tag len v y y' r → VerifyReturns s (last_16 m) (length m) v y y' r
verify_at s m v tag len y y' r e t told =
    let P : ℕ → Type 0 = λ n. VerifyReturns s (last_16 m) n v y y' r in
    let Q : List ℕ → Type 0 = λ x. VerifyReturns s x len v y y' r in
    subst P e (subst Q t told)

write_at : (s : Setting) (m w tag : List ℕ) (o o' : Option (List ℕ)) (len z z' u u' : ℕ)
    (r : Result (Unit {0}) Fault) → len ≡ length m → tag ≡ last_16 m →
    WriteReturns s tag len w o o' z z' u u' r → WriteReturns s (last_16 m) (length m) w o o' z z' u u' r
write_at s m w tag o o' len z z' u u' r e d told =
    let P : ℕ → Type 0 = λ n. WriteReturns s (last_16 m) n w o o' z z' u u' r in
    let Q : List ℕ → Type 0 = λ x. WriteReturns s x len w o o' z z' u u' r in
    subst P e (subst Q d told)

-- if the verify reading is refused, the fault is the verdict, and it is not that only the write reading differs
refused_by : (s : Setting) (m v w : List ℕ) (f : Fault) (found : Finding) → FitsSealed s m
    → Err f ≡ verify_answer found →
    IsFinding s (last_16 m) (length m) v found
    → Verdict s m v w (Err f) × (f ≡ SourceChanged → OnlyWriteDiffers s m v w → ⊥)
refused_by s m v w f Differs fits e h =
    let p : f ≡ SourceChanged = cc in (
      verdict_at s m v w f SourceChanged p (fits, inl (λ a. h (agrees_to m v a))),
      λ _ only.
          h (agrees_to m v only.0),
    )
refused_by s m v w f Unsealed fits e h =
    let p : f ≡ TagMismatch = cc in (
      verdict_at s m v w f TagMismatch p (fits, agrees_from m v fits.long h.0, h.1),
      λ q _.
          absurd (let x : TagMismatch ≡ SourceChanged = sym p ∙ q in cc),
    )
refused_by s m v w f Sealed fits e h = absurd (cc)

opens_verify : (s : Setting) (m v w : List ℕ) (x x' y y' z u : ℕ) (f : Fault) → FitsSealed s m → x' ≡ x →
    VerifyReturns s (last_16 m) (length m) v y y' (Err f) →
    OpensStream s m v w [] (record { measure = x; verify = y; write = z; outlet = u })
    (record { measure = x'; verify = y'; write = z; outlet = u }) (Err f)
opens_verify s m v w x x' y y' z u f fits kept told =
    let before : FailureCounts = record { measure = x; verify = y; write = z; outlet = u } in
    let after : FailureCounts = record { measure = x'; verify = y'; write = z; outlet = u } in
    elim told [
      | inl found ↦
          let refused = refused_by s m v w f found.0 fits found.1 found.2 in
          opens_nothing s m v w before after f refused.1 (inl (refused.0, cc (kept, found.3)))
      | inr failed ↦
          let p : f ≡ Read = cc (failed.0) in
          opens_nothing s m v w before after f
          (λ e _. absurd (let q : Read ≡ SourceChanged = sym p ∙ e in cc)) (inr (p, inr (inl failed.1)))
    ]

-- ---- the write reading was begun

-- if the verify step returns `Ok`, the verify reading is a valid sealing that agrees
verified : (s : Setting) (m v : List ℕ) (found : Finding) → FitsSealed s m → Ok tt ≡ verify_answer found →
    IsFinding s (last_16 m) (length m) v found → Agrees m v × IsSealing s v
verified s m v Differs fits e h = absurd (cc)
verified s m v Unsealed fits e h = absurd (cc)
verified s m v Sealed fits e h = (agrees_from m v fits.long h.0, (_, h.1))

-- the fault of a device is neither `Ok` nor `SourceChanged`
no_answer : (r : Result (Unit {0}) Fault) (X Y : Type 0) → ((r ≡ Err Read) × X) ⊎ ((r ≡ Err Write) × Y)
    → (r ≡ Ok tt → ⊥) × (r ≡ Err SourceChanged → ⊥)
no_answer r X Y h = elim h [ inl b ↦ (λ e. cc (b.0), λ e. cc (b.0)) | inr b ↦ (λ e. cc (b.0), λ e. cc (b.0)) ]

-- the result for what was found in the write reading is the verdict, and at Ok the reading opens to its unmasked body
written : (s : Setting) (m v w : List ℕ) (r : Result (Unit {0}) Fault) (found : Finding) → FitsSealed s m
    → Agrees m v × IsSealing s v →
    r ≡ write_answer found → IsFinding s (last_16 m) (length m) w found →
    Verdict s m v w r × (r ≡ Ok tt → Opened s w (masked (mask_of s (last_16 m)) 0 (take (length m - 16) w)))
written s m v w r Differs fits ver e h =
    let P : Result (Unit {0}) Fault → Type 0 = λ x. Verdict s m v w x in
    (subst P (sym e) (fits, inr (ver.0, ver.1, λ both. h (agrees_to m w both.0))), λ q. absurd (cc))
written s m v w r Unsealed fits ver e h =
    let P : Result (Unit {0}) Fault → Type 0 = λ x. Verdict s m v w x in
    (subst P (sym e) (fits, inr (ver.0, ver.1, λ both. h.1 both.1)), λ q. absurd (cc))
written s m v w r Sealed fits ver e h =
    let P : Result (Unit {0}) Fault → Type 0 = λ x. Verdict s m v w x in
    (subst P (sym e) (fits, ver.0, ver.1, agrees_from m w fits.long h.0, (_, h.1)), λ q. h.1)

opens_written : (s : Setting) (m v w : List ℕ) (o o' : Option (List ℕ)) (x x' y y' z z' u u' : ℕ)
    (r : Result (Unit {0}) Fault) → FitsSealed s m →
    x' ≡ x → y' ≡ y → Agrees m v × IsSealing s v → WriteReturns s (last_16 m) (length m) w o o' z z' u u' r →
    (given : List ℕ) × Appends o o' given
    × OpensStream s m v w given (record { measure = x; verify = y; write = z; outlet = u })
    (record { measure = x'; verify = y'; write = z'; outlet = u' }) r
opens_written s m v w o o' x x' y y' z z' u u' r fits kept_x kept_y ver told =
    let text : List ℕ = masked (mask_of s (last_16 m)) 0 (take (length m - 16) w) in
    let all : shown s m w ≡ text = shown_is s m w fits.text_fits in
    elim told [
      | inl d ↦
          let wr = written s m v w r d.1.0 fits ver d.1.1 d.1.2 in (
            text,
            d.0,
            record {
              early = λ _. (ver.0, ver.1, kept_x, kept_y);
              beginning = (
                length text,
                sym (ap (λ l. take (length text) l) all ∙ take_all (length text) text (omega arith)),
              );
              whole = λ _. sym all;
              text = wr.1;
              answer = inl (wr.0, cc (kept_x, kept_y, d.1.3, d.1.4));
            },
          )
      | inr k ↦ (
        take k.0 text,
        k.1,
        record {
          early = λ _. (ver.0, ver.1, kept_x, kept_y);
          beginning = (k.0, ap (λ l. take k.0 l) (sym all));
          whole = λ h. absurd (elim h
              [ inl e ↦ (no_answer r _ _ k.2).0 e | inr e ↦ (no_answer r _ _ k.2).1 e.0 ]);
          text = λ e. absurd ((no_answer r _ _ k.2).0 e);
          answer = elim k.2 [ inl b ↦ inr (inl (b.0, inr (inr b.1))) | inr b ↦ inr (inr (b.0, b.1)) ];
        },
      )
    ]

-- ---- the exits

pub exit_aad : (lm lv lw o : Option (List ℕ)) (s : Setting) (before : FailureCounts)
    → aad_limit s.suite < length s.aad →
    IfAllKnown lm lv lw o o (λ m v w given. OpensStream s m v w given before before (Err AadTooLong))
exit_aad lm lv lw o s before a =
    if_known lm lv lw o o (λ _. Unit {0}) (λ _. Unit {0}) (λ _. Unit {0}) _ (any_bytes lm) (any_bytes lv)
    (any_bytes lw)
    (λ m v w _ _ _. ([], appends_none o, opens_aad s m v w before a))

pub exit_measure : (lm lv lw o : Option (List ℕ)) (s : Setting) (x x' y z u : ℕ) (f : Fault)
    → length s.aad ≤ aad_limit s.suite →
    IfSome lm (λ m. MeasureReturns (text_limit s.suite) m x x' (Err f)) →
    IfAllKnown lm lv lw o o (λ m v w given.
    OpensStream s m v w given (record { measure = x; verify = y; write = z; outlet = u })
    (record { measure = x'; verify = y; write = z; outlet = u }) (Err f))
exit_measure lm lv lw o s x x' y z u f a told =
    if_known lm lv lw o o _ (λ _. Unit {0}) (λ _. Unit {0}) _ told (any_bytes lv) (any_bytes lw)
    (λ m v w p _ _. ([], appends_none o, opens_measure s m v w x x' y z u f a p))

-- a reading that was measured has the length of a sealing
fits_measured : (s : Setting) (m : List ℕ) (x x' : ℕ) (a : Measured) → length s.aad ≤ aad_limit s.suite
    → MeasureReturns (text_limit s.suite) m x x' (Ok a) → FitsSealed s m
fits_measured s m x x' a fits told = record { aad_fits = fits; long = told.2; text_fits = told.3 }

pub exit_verify : (lm lv lw o : Option (List ℕ)) (s : Setting) (a : Measured) (x x' y y' z u : ℕ) (f : Fault)
    → length s.aad ≤ aad_limit s.suite →
    IfSome lm (λ m. MeasureReturns (text_limit s.suite) m x x' (Ok a)) →
    IfSome lv (λ v. VerifyReturns s a.tag a.length v y y' (Err f)) →
    IfAllKnown lm lv lw o o (λ m v w given.
    OpensStream s m v w given (record { measure = x; verify = y; write = z; outlet = u })
    (record { measure = x'; verify = y'; write = z; outlet = u }) (Err f))
exit_verify lm lv lw o s a x x' y y' z u f fits told_m told_v =
    if_known lm lv lw o o _ _ (λ _. Unit {0}) _ told_m told_v (any_bytes lw)
    (λ m v w p q _. (
      [],
      appends_none o,
      opens_verify s m v w x x' y y' z u f (fits_measured s m x x' a fits p) p.4
          (verify_at s m v a.tag a.length y y' (Err f) p.0 p.1 q),
    ))

pub exit_write : (lm lv lw o o' : Option (List ℕ)) (s : Setting) (a : Measured) (x x' y y' z z' u u' : ℕ)
    (r : Result (Unit {0}) Fault) → length s.aad ≤ aad_limit s.suite →
    IfSome lm (λ m. MeasureReturns (text_limit s.suite) m x x' (Ok a)) →
    IfSome lv (λ v. VerifyReturns s a.tag a.length v y y' (Ok tt)) →
    IfSome lw (λ w. WriteReturns s a.tag a.length w o o' z z' u u' r) →
    IfAllKnown lm lv lw o o' (λ m v w given.
    OpensStream s m v w given (record { measure = x; verify = y; write = z; outlet = u })
    (record { measure = x'; verify = y'; write = z'; outlet = u' }) r)
exit_write lm lv lw o o' s a x x' y y' z z' u u' r fits told_m told_v told_w =
    if_known lm lv lw o o' _ _ _ _ told_m told_v told_w
    (λ m v w p q t.
    let f : FitsSealed s m = fits_measured s m x x' a fits p in
    elim (verify_at s m v a.tag a.length y y' (Ok tt) p.0 p.1 q) [
      | inl found ↦
          opens_written s m v w o o' x x' y y' z z' u u' r f p.4 found.3
          (verified s m v found.0 f found.1 found.2)
          (write_at s m w a.tag o o' a.length z z' u u' r p.0 p.1 t)
      | inr failed ↦ absurd (cc (failed.0))
    ])
