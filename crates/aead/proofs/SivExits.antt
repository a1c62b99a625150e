-- The exits of the engine that seals in two readings, each with its result.
use Rattle.std.proofs.Common.{◌≡◌, ℕ, List, [], ◌++◌, ◌≤◌, ◌<◌, ◌+◌, ◌⊎◌, inl, inr}
use Rattle.std.proofs.Common.{length, take, refl, ap, ◌∙◌, sym, arith, Option, Some, None, Result, Ok, Err}
use Rattle.std.proofs.Common.{subst, IfSome}
use Rattle.std.proofs.lemmas.List.{take_all, take-take}
use Rattle.std.proofs.Math.Seq.{take-append-add}
use Rattle.std.specs.Io.KnownBytes.{Appends}
use Rattle.octets.specs.declared.fault.Fault.{Fault}
use Rattle.octets.specs.declared.fault.Fault.TheVariants.{Read, Write, TextTooLong}
use Rattle.octets.specs.declared.fault.Fault.TheVariants.{AadTooLong}
use Rattle.octets.specs.declared.fault.Fault.TheVariants.{SourceChanged}
use Rattle.octets.specs.Device.{Failed}
use Rattle.octets.specs.Masked.{masked}
use Rattle.octets.proofs.Devices.{appends_none, appends_more}
use Rattle.octets.proofs.Masks.{take-masked}
use Rattle.aead.specs.declared.engine.stage.Reading.{Reading}
use Rattle.aead.specs.Suites.{text_limit, aad_limit}
use Rattle.aead.specs.Sealing.{Setting, Fits, mask_of, tag_of}
use Rattle.aead.specs.Refusals.{DueToBoth}
use Rattle.aead.specs.Pieces.{Repeats}
use Rattle.aead.specs.Code.Maskings.{HoldsReading}
use Rattle.aead.specs.Code.Passes.{Stopped}
use Rattle.aead.specs.Code.Extents.{HasPassedAll}
use Rattle.aead.specs.SealSivStream.{again, WritesAgain, SivVerdict, SivCounts, SealsSivStream}
use Rattle.aead.specs.SealSivStream.{IfBothKnown}
use Rattle.aead.proofs.Extents.{all_known, all_stopped_known}
use Rattle.aead.proofs.Passing.{reading_failed}
use Rattle.aead.proofs.SealExits.{told}

-- ---- the second reading

-- the ciphertext of the second reading up to the first one's length was written, and the state has taken in that part of it
again_known : {M : Type 0} (holds : M → List ℕ → Type 0) (s : Setting) (a b : List ℕ) (len : ℕ)
    (l' o o' : Option (List ℕ)) (k : M) (e : Option ℕ) → len ≡ length a
    → HasPassedAll holds (mask_of s (tag_of s a)) len (Some b) l' o o' k e
    → Appends o o' (again s a b) × holds k (take (length a) b)
again_known holds s a b len l' o o' k e same w =
    let t = all_known holds (mask_of s (tag_of s a)) len b l' o o' k e w in
    let P : ℕ → Type 0 = λ n. Appends o o' (masked (mask_of s (tag_of s a)) 0 (take n b)) in
    let Q : ℕ → Type 0 = λ n. holds k (take n b) in
    (subst P same t.0, subst Q same t.1)

-- if its length was found, the second reading is no longer than the first
whole_again : {M : Type 0} (holds : M → List ℕ → Type 0) (s : Setting) (a b : List ℕ)
    (len n : ℕ) (l' o o' : Option (List ℕ)) (k : M) → len ≡ length a
    → HasPassedAll holds (mask_of s (tag_of s a)) len (Some b) l' o o' k (Some n) → take (length a) b ≡ b
whole_again holds s a b len n l' o o' k same w =
    let t = all_known holds (mask_of s (tag_of s a)) len b l' o o' k (Some n) w in
    take_all (length a) b (omega (arith, t.2.0, t.2.1, same))

-- the exit after a device failed before the tag: a beginning of the ciphertext was written
pub again_stopped : (s : Setting) (a b : List ℕ) (len read read' wrote wrote' : ℕ)
    (l' o o' : Option (List ℕ)) (f : Fault) → len ≡ length a
    → Stopped (mask_of s (tag_of s a)) [] len (Some b) l' o o'
    → DueToBoth {T = ℕ} [] read read' wrote wrote' (Err f)
    → WritesAgain s a b o o' read read' wrote wrote' (Err f)
again_stopped s a b len read read' wrote wrote' l' o o' f same stop blame =
    let m : ℕ → ℕ = mask_of s (tag_of s a) in
    let k = all_stopped_known (mask_of s (tag_of s a)) len b l' o o' stop in
    let P : List ℕ → Type 0 = λ x. Appends o o' x in
    let front : take k.0 (masked m 0 b) ≡ take k.0 (again s a b) =
    take-masked m k.0 0 b ∙ ap (λ x. masked m 0 x)
    (sym (take-take k.0 (length a) b (omega (arith, k.2, same))))
    ∙ sym (take-masked m k.0 0 (take (length a) b)) in
    inr (inr (inl (
      k.0,
      subst P front k.3,
      elim blame [ inl x ↦ absurd x.0 | inr (inl x) ↦ inl (ap Err x.0, x.1) | inr (inr x) ↦ inr (ap Err x.0, x.1) ],
    )))

-- the exit after the second reading was found to be longer than the first
pub again_long : {M : Type 0} (holds : M → List ℕ → Type 0) (s : Setting) (a b : List ℕ)
    (len read read' wrote wrote' : ℕ) (l' o o' : Option (List ℕ)) (k : M) → len ≡ length a
    → HasPassedAll holds (mask_of s (tag_of s a)) len (Some b) l' o o' k None → (read' ≡ read) × (wrote' ≡ wrote)
    → WritesAgain s a b o o' read read' wrote wrote' (Err SourceChanged)
again_long holds s a b len read read' wrote wrote' l' o o' k same w kept =
    let t = all_known holds (mask_of s (tag_of s a)) len b l' o o' k None w in
    inr (inl (
      refl,
      λ r. omega (arith, r.0, t.2, same),
      (again_known holds s a b len l' o o' k None same w).0,
      kept.0,
      kept.1,
    ))

-- the exit after the second reading was found not to repeat the first
pub again_differs : {M : Type 0} (holds : M → List ℕ → Type 0) (s : Setting) (a b : List ℕ)
    (len n read read' wrote wrote' : ℕ) (l' o o' : Option (List ℕ)) (k : M) → len ≡ length a
    → HasPassedAll holds (mask_of s (tag_of s a)) len (Some b) l' o o' k (Some n) → (read' ≡ read) × (wrote' ≡ wrote)
    → ((text : List ℕ) → holds k text → ¬ (Repeats s a text))
    → WritesAgain s a b o o' read read' wrote wrote' (Err SourceChanged)
again_differs holds s a b len n read read' wrote wrote' l' o o' k same w kept other =
    let t = again_known holds s a b len l' o o' k (Some n) same w in
    let e = whole_again holds s a b len n l' o o' k same w in
    let P : List ℕ → Type 0 = λ x. ¬ (Repeats s a x) in
    inr (inl (refl, subst P e (other (take (length a) b) t.1), t.0, kept.0, kept.1))

-- the exit after the second reading repeated the first, and the tag was written, or a beginning of it because the outlet failed
pub again_tag : {M : Type 0} (holds : M → List ℕ → Type 0) (s : Setting) (a b tag : List ℕ)
    (len n i read read' wrote wrote' : ℕ) (l' o o' o'' : Option (List ℕ)) (k : M)
    (r : Result (Unit {0}) Fault) → len ≡ length a
    → HasPassedAll holds (mask_of s (tag_of s a)) len (Some b) l' o o' k (Some n)
    → ((text : List ℕ) → holds k text → Repeats s a text)
    → tag ≡ tag_of s a → Appends o' o'' (take i tag)
    → ((r ≡ Ok tt) × (length tag ≤ i) × (read' ≡ read) × (wrote' ≡ wrote))
    ⊎ ((r ≡ Err Write) × Failed wrote wrote')
    → WritesAgain s a b o o'' read read' wrote wrote' r
again_tag holds s a b tag len n i read read' wrote wrote' l' o o' o'' k r same w found tag_is more end =
    let t = again_known holds s a b len l' o o' k (Some n) same w in
    let e = whole_again holds s a b len n l' o o' k same w in
    let P : List ℕ → Type 0 = λ x. Repeats s a x in
    let repeats = subst P e (found (take (length a) b) t.1) in
    let Q : List ℕ → Type 0 = λ x. Appends o o'' (again s a b ++ x) in
    let given = appends_more o o' o'' (again s a b) (take i tag) t.0 more in
    elim end [
      | inl d ↦ inl (d.0, repeats, subst Q (take_all i tag d.1 ∙ tag_is) given, d.2, d.3)
      | inr d ↦ inr (inr (inr (i, subst Q (ap (take i) tag_is) given, repeats, d.0, d.1)))
    ]

-- ---- both readings

-- if A and B hold of the readings' bytes, and Q of these and the bytes written follows, `IfBothKnown` holds of Q
if_both_known : (la lb o o' : Option (List ℕ)) (A B : List ℕ → Type 0)
    (Q : List ℕ → List ℕ → List ℕ → Type 0) → IfSome la A → IfSome lb B
    → ((a b : List ℕ) → A a → B b → (given : List ℕ) × Appends o o' given × Q a b given)
    → IfBothKnown la lb o o' Q
if_both_known None lb o o' A B Q p q f = tt
if_both_known (Some a) None o o' A B Q p q f = tt
if_both_known (Some a) (Some b) None o' A B Q p q f = tt
if_both_known (Some a) (Some b) (Some y) o' A B Q p q f = f a b p q

-- the empty condition holds of the bytes of every device
any_bytes : (l : Option (List ℕ)) → IfSome l (λ _. Unit {0})
any_bytes None = tt
any_bytes (Some x) = tt

-- the results if nothing was written
nothing : (s : Setting) (a b : List ℕ) (before after : SivCounts) (f : Fault) →
    (SivVerdict s a b (Err f) × (after ≡ before))
    ⊎ ((f ≡ Read) × (Failed before.first after.first ⊎ Failed before.second after.second))
    → SealsSivStream s a b [] before after (Err f)
nothing s a b before after f answer =
    record {
      early = λ _. refl;
      beginning = inl (0, refl);
      whole = λ e. absurd (cc);
      answer = elim answer [ inl v ↦ inl v | inr v ↦ inr (inl (ap Err v.0, v.1)) ];
    }

pub exit_aad : (la lb o : Option (List ℕ)) (s : Setting) (before : SivCounts) → ¬ (length s.aad ≤ aad_limit s.suite)
    → IfBothKnown la lb o o (λ a b given. SealsSivStream s a b given before before (Err AadTooLong))
exit_aad la lb o s before past =
    if_both_known la lb o o (λ _. Unit {0}) (λ _. Unit {0}) _ (any_bytes la) (any_bytes lb)
    (λ a b _ _. ([], appends_none o, nothing s a b before before AadTooLong (inl (past, refl))))

pub exit_first : (la lb o : Option (List ℕ)) (s : Setting) (x x' y z : ℕ) (f : Fault)
    → DueToBoth {T = Option ℕ} [] x x' 0 0 (Err f)
    → IfBothKnown la lb o o
    (λ a b given. SealsSivStream s a b given (record { first = x; second = y; outlet = z })
    (record { first = x'; second = y; outlet = z }) (Err Read))
exit_first la lb o s x x' y z f due =
    let failed = reading_failed (Option ℕ) x x' f due in
    if_both_known la lb o o (λ _. Unit {0}) (λ _. Unit {0}) _ (any_bytes la) (any_bytes lb)
    (λ a b _ _. (
      [],
      appends_none o,
      nothing s a b (record { first = x; second = y; outlet = z })
          (record { first = x'; second = y; outlet = z }) Read (inr (refl, inl failed)),
    ))

pub exit_long : {M : Type 0} (holds : M → List ℕ → Type 0) (mask : ℕ → ℕ) (la lb o l' p p' : Option (List ℕ))
    (s : Setting) (k : M) (room x x' y z : ℕ)
    → room ≡ text_limit s.suite → length s.aad ≤ aad_limit s.suite
    → x' ≡ x → HasPassedAll holds mask room la l' p p' k None
    → IfBothKnown la lb o o
    (λ a b given. SealsSivStream s a b given (record { first = x; second = y; outlet = z })
    (record { first = x'; second = y; outlet = z }) (Err TextTooLong))
exit_long holds mask la lb o l' p p' s k room x x' y z same fits kept w =
    let counts : ℕ → SivCounts = λ n. record { first = n; second = y; outlet = z } in
    if_both_known la lb o o _ (λ _. Unit {0}) _ (told la (λ m. HasPassedAll holds mask room m l' p p' k None) w)
    (any_bytes lb)
    (λ a b t _.
    let past : text_limit s.suite < length a =
    omega (arith, (all_known holds mask room a l' p p' k None t).2, same) in (
      [],
      appends_none o,
      nothing s a b (counts x) (counts x') TextTooLong
          (inl ((fits, λ h. omega (arith, past, h)), ap counts kept)),
    ))

-- the results after the second reading was begun
wrote : (s : Setting) (a b : List ℕ) (o o' : Option (List ℕ)) (x x' y y' z z' : ℕ)
    (r : Result (Unit {0}) Fault) → Fits s a → x' ≡ x → WritesAgain s a b o o' y y' z z' r
    → (given : List ℕ) × Appends o o' given
    × SealsSivStream s a b given (record { first = x; second = y; outlet = z })
    (record { first = x'; second = y'; outlet = z' }) r
wrote s a b o o' x x' y y' z z' r fits kept w =
    let text : List ℕ = again s a b in
    let tag : List ℕ = tag_of s a in
    let not_early : (aad_limit s.suite < length s.aad) ⊎ (text_limit s.suite < length a) → ⊥ =
    λ p. elim p [ inl q ↦ omega (arith, q, fits.aad_fits) | inr q ↦ omega (arith, q, fits.text_fits) ] in
    let P : Result (Unit {0}) Fault → Type 0 = λ v. SivVerdict s a b v in
    elim w [
      | inl d ↦ (
        text ++ tag,
        d.2,
        record {
          early = λ p. absurd (not_early p);
          beginning = inr (
            d.1,
            (
              length (text ++ tag),
              sym (take_all (length (text ++ tag)) (text ++ tag) (omega arith)),
            ),
          );
          whole = λ _. (d.1, refl);
          answer = inl (subst P (sym d.0) (fits, d.1), cc (kept, d.3, d.4));
        },
      )
      | inr rest ↦ elim rest [
        | inl d ↦ (
          text,
          d.2,
          record {
            early = λ p. absurd (not_early p);
            beginning = inl (length text, sym (take_all (length text) text (omega arith)));
            whole = λ e. absurd (cc (d.0));
            answer = inl (subst P (sym d.0) (fits.aad_fits, (fits.text_fits, d.1)), cc (kept, d.3, d.4));
          },
        )
        | inr more ↦ elim more [
          | inl d ↦ (
            take d.0 text,
            d.1,
            record {
              early = λ p. absurd (not_early p);
              beginning = inl (d.0, refl);
              whole = λ e. absurd (elim d.2 [ inl f ↦ cc (f.0) | inr f ↦ cc (f.0) ]);
              answer = elim d.2 [ inl f ↦ inr (inl (f.0, inr f.1)) | inr f ↦ inr (inr (f.0, f.1)) ];
            },
          )
          | inr d ↦ (
            text ++ take d.0 tag,
            d.1,
            record {
              early = λ p. absurd (not_early p);
              beginning = inr (d.2, (length text + d.0, sym (take-append-add text tag d.0)));
              whole = λ e. absurd (cc (d.3));
              answer = inr (inr (d.3, d.4));
            },
          )
        ]
      ]
    ]

pub exit_second : (mask : ℕ → ℕ)
    (la lb o o' l' p p' : Option (List ℕ)) (s : Setting) (k : Reading) (room n x x' y y' z z' : ℕ)
    (r : Result (Unit {0}) Fault)
    → x' ≡ x → HasPassedAll (HoldsReading s) mask room la l' p p' k (Some n)
    → ((a : List ℕ) → HoldsReading s k a → length a ≡ n → IfSome lb (λ b. WritesAgain s a b o o' y y' z z' r))
    → IfBothKnown la lb o o'
    (λ a b given. SealsSivStream s a b given (record { first = x; second = y; outlet = z })
    (record { first = x'; second = y'; outlet = z' }) r)
exit_second mask None lb o o' l' p p' s k room n x x' y y' z z' r kept w f = tt
exit_second mask (Some a) lb o o' l' p p' s k room n x x' y y' z z' r kept w f =
    let t = all_known (HoldsReading s) mask room a l' p p' k (Some n) w in
    let Q : List ℕ → Type 0 = λ x. HoldsReading s k x in
    let h = subst Q (take_all room a (omega (arith, t.2.0, t.2.1))) t.1 in
    if_both_known (Some a) lb o o' (λ m. m ≡ a) (λ b. WritesAgain s a b o o' y y' z z' r) _ refl (f a h t.2.0)
    (λ m b e t.
    let P : List ℕ → Type 0 =
    λ q. (given : List ℕ) × Appends o o' given
    × SealsSivStream s q b given (record { first = x; second = y; outlet = z })
    (record { first = x'; second = y'; outlet = z' }) r in
    subst P (sym e) (wrote s a b o o' x x' y y' z z' r h.taken.fits kept t))
