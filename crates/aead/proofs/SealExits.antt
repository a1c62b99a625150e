-- The exits of the engine that seals in one reading, each with its result.
use Rattle.std.proofs.Common.{◌≡◌, ℕ, List, [], ◌++◌, ◌≤◌, ◌<◌, ◌+◌, ◌⊎◌, inl, inr, true, length, take, refl}
use Rattle.std.proofs.Common.{ap, ◌∙◌, sym, arith, Option, Some, None, Result, Ok, Err, subst, IfSome}
use Rattle.std.proofs.lemmas.Bool.{le-leb, lt-leb}
use Rattle.std.proofs.lemmas.Bool.{cases_lt}
use Rattle.std.proofs.lemmas.List.{take_all, take-append-le, take-take}
use Rattle.std.proofs.Math.Seq.{take-append-add}
use Rattle.std.specs.Io.KnownBytes.{Appends}
use Rattle.octets.specs.declared.fault.Fault.{Fault}
use Rattle.octets.specs.declared.fault.Fault.TheVariants.{Write, TextTooLong, AadTooLong}
use Rattle.octets.specs.Device.{Failed}
use Rattle.octets.specs.Masked.{masked}
use Rattle.octets.proofs.Devices.{appends_none, appends_more}
use Rattle.octets.proofs.Masks.{length-masked, take-masked}
use Rattle.aead.specs.Suites.{construction_of, is_one_pass, text_limit, aad_limit}
use Rattle.aead.specs.Sealing.{Setting, mask_of, tag_of, sealing}
use Rattle.aead.specs.Refusals.{DueToBoth}
use Rattle.aead.specs.Code.Maskings.{no_tag}
use Rattle.aead.specs.Code.Passes.{Stopped}
use Rattle.aead.specs.Code.Extents.{HasPassedAll}
use Rattle.aead.specs.SealStream.{may_seal, SealVerdict, SealsStream, IfTextKnown}
use Rattle.aead.proofs.Opens.{same_mask}
use Rattle.aead.proofs.Extents.{all_known, all_stopped_known}

-- ---- the bytes that may be written

-- for a text within the limit, the bytes that may be written are the ciphertext and the tag
pub may_seal_is : (s : Setting) (x : List ℕ) → is_one_pass (construction_of s.suite) ≡ true
    → length x ≤ text_limit s.suite
    → may_seal s x ≡ masked (mask_of s no_tag) 0 x ++ tag_of s x
unfolding may_seal sealing
may_seal_is s x one fits =
    rw (le-leb (length x) (text_limit s.suite) fits)
    (ap (λ f. masked f 0 x ++ tag_of s x) (same_mask s (tag_of s x) no_tag one))

-- for a longer text, the bytes that may be written are the ciphertext of its first bytes, up to the limit
pub may_seal_long : (s : Setting) (x : List ℕ) → is_one_pass (construction_of s.suite) ≡ true
    → text_limit s.suite < length x
    → may_seal s x ≡ masked (mask_of s no_tag) 0 (take (text_limit s.suite) x)
unfolding may_seal
may_seal_long s x one past =
    rw (lt-leb (length x) (text_limit s.suite) past)
    (ap (λ f. masked f 0 (take (text_limit s.suite) x)) (same_mask s (tag_of s x) no_tag one))

pub may_seal_sealing : (s : Setting) (x : List ℕ) → length x ≤ text_limit s.suite → may_seal s x ≡ sealing s x
unfolding may_seal
may_seal_sealing s x fits = rw (le-leb (length x) (text_limit s.suite) fits) refl

-- a beginning of the ciphertext within the limit is a beginning of the bytes that may be written
pub begun : (s : Setting) (x : List ℕ) (k : ℕ) → is_one_pass (construction_of s.suite) ≡ true → k ≤ length x
    → k ≤ text_limit s.suite
    → take k (masked (mask_of s no_tag) 0 x) ≡ take k (may_seal s x)
begun s x k one within short =
    elim (cases_lt (text_limit s.suite) (length x)) [
      | inl past ↦
          take-masked (mask_of s no_tag) k 0 x
          ∙ ap (λ l. masked (mask_of s no_tag) 0 l) (sym (take-take k (text_limit s.suite) x short))
          ∙ sym (take-masked (mask_of s no_tag) k 0 (take (text_limit s.suite) x))
          ∙ sym (ap (take k) (may_seal_long s x one past))
      | inr fits ↦
          sym (take-append-le k (masked (mask_of s no_tag) 0 x) (tag_of s x)
          (omega (arith, within, length-masked (mask_of s no_tag) 0 x)))
          ∙ sym (ap (take k) (may_seal_is s x one fits))
    ]

-- ---- the exits

-- if A holds of the reading's bytes, and Q of these and the bytes written follows from A, `IfTextKnown` holds of Q
if_text_known : (l o o' : Option (List ℕ)) (A : List ℕ → Type 0) (Q : List ℕ → List ℕ → Type 0) → IfSome l A
    → ((x : List ℕ) → A x → (given : List ℕ) × Appends o o' given × Q x given) → IfTextKnown l o o' Q
if_text_known None o o' A Q a f = tt
if_text_known (Some x) None o' A Q a f = tt
if_text_known (Some x) (Some y) o' A Q a f = f x a

-- if P holds of what is known of a reading, it holds of its bytes where they are known
pub told : (l : Option (List ℕ)) (P : Option (List ℕ) → Type 0) → P l → IfSome l (λ x. P (Some x))
told None P p = tt
told (Some x) P p = p

-- if A holds of the bytes where they are known, so does every B that follows from A
pub if_known : (l : Option (List ℕ)) (A B : List ℕ → Type 0) → IfSome l A → ((x : List ℕ) → A x → B x)
    → IfSome l B
if_known None A B a f = tt
if_known (Some x) A B a f = f x a

-- the empty condition holds of every text
any_text : (l : Option (List ℕ)) → IfSome l (λ _. Unit {0})
any_text None = tt
any_text (Some x) = tt

-- the exit with `AadTooLong`: nothing was written
pub exit_aad : (l o : Option (List ℕ)) (s : Setting) (read wrote : ℕ) → aad_limit s.suite < length s.aad
    → IfTextKnown l o o (λ x given. SealsStream s x given read read wrote wrote (Err AadTooLong))
exit_aad l o s read wrote past =
    if_text_known l o o (λ _. Unit {0}) _ (any_text l) (λ x _. (
      [],
      appends_none o,
      record {
        early = λ _. refl;
        beginning = (0, refl);
        whole = λ e. absurd (cc);
        answer = inl (λ h. omega (arith, past, h), refl, refl);
      },
    ))

-- the exit after a device failed before the tag: a beginning of the ciphertext was written
pub exit_stopped : (l l' o o' : Option (List ℕ)) (s : Setting) (limit read read' wrote wrote' : ℕ)
    (f : Fault) → limit ≡ text_limit s.suite
    → is_one_pass (construction_of s.suite) ≡ true → length s.aad ≤ aad_limit s.suite
    → Stopped (mask_of s no_tag) [] limit l l' o o'
    → DueToBoth {T = ℕ} [] read read' wrote wrote' (Err f)
    → IfTextKnown l o o' (λ x given. SealsStream s x given read read' wrote wrote' (Err f))
exit_stopped l l' o o' s limit read read' wrote wrote' f same one fits stop blame =
    if_text_known l o o' _ _ (told l (λ m. Stopped (mask_of s no_tag) [] limit m l' o o') stop) (λ x st.
    let k = all_stopped_known (mask_of s no_tag) limit x l' o o' st in (
      take k.0 (masked (mask_of s no_tag) 0 x),
      k.3,
      record {
        early = λ past. absurd (omega (arith, past, fits));
        beginning = (k.0, begun s x k.0 one k.1 (omega (arith, k.2, same)));
        whole = λ e. absurd (cc);
        answer = elim blame [ inl b ↦ absurd b.0 | inr (inl b) ↦ inr (inl (ap Err b.0, b.1)) | inr (inr b) ↦ inr (inr (ap Err b.0, b.1)) ];
      },
    ))

-- the exit with `TextTooLong`: the ciphertext up to the limit was written
pub exit_long : {M : Type 0} (holds : M → List ℕ → Type 0) (l l' o o' : Option (List ℕ))
    (s : Setting) (k : M) (limit read read' wrote wrote' : ℕ) → limit ≡ text_limit s.suite
    → is_one_pass (construction_of s.suite) ≡ true → length s.aad ≤ aad_limit s.suite
    → HasPassedAll holds (mask_of s no_tag) limit l l' o o' k None → (read' ≡ read) × (wrote' ≡ wrote)
    → IfTextKnown l o o' (λ x given. SealsStream s x given read read' wrote wrote' (Err TextTooLong))
exit_long holds l l' o o' s k limit read read' wrote wrote' same one fits went kept =
    if_text_known l o o' _ _
    (told l (λ m. HasPassedAll holds (mask_of s no_tag) limit m l' o o' k None) went) (λ x w.
    let t = all_known holds (mask_of s no_tag) limit x l' o o' k None w in
    let past : text_limit s.suite < length x = omega (arith, t.2, same) in
    let given : List ℕ = masked (mask_of s no_tag) 0 (take limit x) in
    let all : given ≡ may_seal s x =
    ap (λ n. masked (mask_of s no_tag) 0 (take n x)) same ∙ sym (may_seal_long s x one past) in (
      given,
      t.0,
      record {
        early = λ p. absurd (omega (arith, p, fits));
        beginning = (
          length given,
          sym (take_all (length given) given (omega arith))
              ∙ ap (take (length given)) all,
        );
        whole = λ e. absurd (cc);
        answer = inl ((fits, λ h. omega (arith, past, h)), kept.0, kept.1);
      },
    ))

-- if a reading was taken to its end, the state holds its whole text
pub holds_all : {M : Type 0} (holds : M → List ℕ → Type 0) (k : M) (s : Setting) (limit n : ℕ)
    (x : List ℕ) (l' o o' : Option (List ℕ)) → limit ≡ text_limit s.suite
    → HasPassedAll holds (mask_of s no_tag) limit (Some x) l' o o' k (Some n)
    → holds k x × (length x ≤ text_limit s.suite)
holds_all holds k s limit n x l' o o' same went =
    let t = all_known holds (mask_of s no_tag) limit x l' o o' k (Some n) went in
    let all : take limit x ≡ x = take_all limit x (omega (arith, t.2.0, t.2.1)) in
    let P : List ℕ → Type 0 = λ y. holds k y in
    (subst P all t.1, omega (arith, t.2.0, t.2.1, same))

-- the exit after the tag was written, or a beginning of it because the outlet failed
pub exit_tag : {M : Type 0} (holds : M → List ℕ → Type 0) (l l' o o' o'' : Option (List ℕ))
    (s : Setting) (k : M) (tag : List ℕ) (limit n i read read' wrote wrote' : ℕ)
    (r : Result (Unit {0}) Fault) → limit ≡ text_limit s.suite
    → is_one_pass (construction_of s.suite) ≡ true → length s.aad ≤ aad_limit s.suite
    → HasPassedAll holds (mask_of s no_tag) limit l l' o o' k (Some n)
    → ((text : List ℕ) → holds k text → tag ≡ tag_of s text)
    → Appends o' o'' (take i tag)
    → ((r ≡ Ok tt) × (length tag ≤ i) × (read' ≡ read) × (wrote' ≡ wrote))
    ⊎ ((r ≡ Err Write) × Failed wrote wrote')
    → IfTextKnown l o o'' (λ x given. SealsStream s x given read read' wrote wrote' r)
exit_tag holds l l' o o' o'' s k tag limit n i read read' wrote wrote' r same one fits went tag_is more end =
    if_text_known l o o'' _ _
    (told l (λ m. HasPassedAll holds (mask_of s no_tag) limit m l' o o' k (Some n)) went)
    (λ x w.
    let held = holds_all holds k s limit n x l' o o' same w in
    let t = all_known holds (mask_of s no_tag) limit x l' o o' k (Some n) w in
    let is : tag ≡ tag_of s x = tag_is x held.0 in
    let whole : take limit x ≡ x = take_all limit x (omega (arith, held.1, same)) in
    let P : List ℕ → Type 0 = λ y. Appends o o' (masked (mask_of s no_tag) 0 y) in
    let body : List ℕ = masked (mask_of s no_tag) 0 x in
    let given : List ℕ = body ++ take i tag in
    let all : may_seal s x ≡ body ++ tag =
    may_seal_is s x one held.1 ∙ ap (λ z. body ++ z) (sym is) in (
      given,
      appends_more o o' o'' body (take i tag) (subst P whole t.0) more,
      record {
        early = λ p. absurd (omega (arith, p, fits));
        beginning = (length body + i, sym (ap (take (length body + i)) all ∙ take-append-add body tag i));
        whole = λ e. elim end [
          | inl d ↦ ap (λ z. body ++ z) (take_all i tag d.1) ∙ sym all ∙ may_seal_sealing s x held.1
          | inr b ↦ absurd (cc (b.0))
        ];
        answer = elim end [
          | inl d ↦
              let Q : Result (Unit {0}) Fault → Type 0 = λ z. SealVerdict s x z in
              inl (subst Q (sym d.0) (record { aad_fits = fits; text_fits = held.1 }), d.2, d.3)
          | inr b ↦ inr (inr (b.0, b.1))
        ];
      },
    ))
