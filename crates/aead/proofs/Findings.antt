-- Facts about a whole reading that has passed.
use Rattle.std.proofs.Common.{◌≡◌, ℕ, List, [], ◌++◌, ◌≤◌, ◌<◌, ◌-◌, ◌⊎◌, inl, inr, Bool, true, false}
use Rattle.std.proofs.Common.{length, take, drop, get_or, refl, ap, ◌∙◌, sym, arith, true≢false, Option}
use Rattle.std.proofs.Common.{Some, None, subst, length-append}
use Rattle.std.specs.Str.{bytes_eq}
use Rattle.std.specs.Io.KnownBytes.{Consumes, Appends}
use Rattle.std.proofs.lemmas.Bool.{cases_lt}
use Rattle.std.proofs.lemmas.List.{append-nil, take_all, drop_all, take_at, drop_at, length-drop}
use Rattle.std.proofs.lemmas.List.{take-append-le, take-take}
use Rattle.std.proofs.lemmas.Slice.Eq.{bytes_eq-Decides}
use Rattle.octets.specs.Masked.{masked}
use Rattle.aead.specs.declared.step.Order.{Order}
use Rattle.octets.proofs.Devices.{consumes_more}
use Rattle.octets.proofs.Masks.{take-masked}
use Rattle.aead.specs.declared.engine.stage.Masking.{Masking}
use Rattle.aead.specs.declared.engine.stage.Reading.{Reading}
use Rattle.aead.specs.declared.engine.passes.Finding.{Finding}
use Rattle.aead.specs.declared.engine.passes.Finding.TheVariants.{Differs, Unsealed, Sealed}
use Rattle.aead.specs.Suites.{construction_of, is_one_pass}
use Rattle.aead.specs.Sealing.{Setting, Fits, Opened, IsNoSealing, mask_of, tag_of, tag_over}
use Rattle.aead.specs.Pieces.{MasksByBytes}
use Rattle.aead.specs.Code.Maskings.{HoldsMasking, HoldsReading, message_task}
use Rattle.aead.specs.Code.Passes.{HasFilledRoom, Stopped}
use Rattle.aead.specs.Code.Findings.{IsFinding, MakesTag, PassesBody, HasPassedReading, Tail}
use Rattle.aead.proofs.ByteMasks.{masked_small}
use Rattle.aead.proofs.Passing.{masked_by_zeros}
use Rattle.aead.proofs.Opens.{unmasked, no_sealing, opened_as, body_tag}

-- ---- the finding for a body and the bytes after it

pub differs_found : (s : Setting) (tag body y : List ℕ) (len : ℕ) → length body ≡ len - 16
    → bytes_eq y tag ≡ false → IsFinding s tag len (body ++ y) Differs
differs_found s tag body y len size other = λ e.
    true≢false (sym ((bytes_eq-Decides y tag).1 (sym (drop_at body y (len - 16) size) ∙ e)) ∙ other)

pub sealed_found : (s : Setting) (tag body y : List ℕ) (len : ℕ) → length body ≡ len - 16
    → bytes_eq y tag ≡ true → MakesTag s tag tag body
    → ((i : ℕ) → get_or (unmasked s tag body) i 0 < 256) → IsFinding s tag len (body ++ y) Sealed
sealed_found s tag body y len size equal makes small =
    let e : y ≡ tag = (bytes_eq-Decides y tag).0 equal in
    let P : List ℕ → Type 0 = λ z. Opened s (body ++ z) (unmasked s tag body) in
    let Q : List ℕ → Type 0 = λ z. Opened s (body ++ y) (masked (mask_of s tag) 0 z) in (
      drop_at body y (len - 16) size ∙ e,
      subst Q (sym (take_at body y (len - 16) size))
          (subst P (sym e) (opened_as s body tag (unmasked s tag body) makes.0 small refl (sym makes.1))),
    )

pub unsealed_found : (s : Setting) (tag body y : List ℕ) (len : ℕ) → length tag ≡ 16 → length body ≡ len - 16
    → bytes_eq y tag ≡ true
    → (tag_of s (unmasked s tag body) ≡ tag → ⊥) → IsFinding s tag len (body ++ y) Unsealed
unsealed_found s tag body y len long size equal other =
    let e : y ≡ tag = (bytes_eq-Decides y tag).0 equal in
    let P : List ℕ → Type 0 = λ z. IsNoSealing s (body ++ z) in (
      drop_at body y (len - 16) size ∙ e,
      subst P (sym e) (no_sealing s body tag long other),
    )

-- ---- a whole pass

-- if the body was taken and decrypted, and t is the tag of its text, the body has passed with the tag t
pub took_masked : (order : Order) (s : Setting) (tag : List ℕ) (len n : ℕ) (l l' o o' : Option (List ℕ)) (k : Masking)
    (t : List ℕ)
    → (q : HasFilledRoom (HoldsMasking (message_task order s tag)) (mask_of s tag) [] (len - 16) l l' o o' k n)
    → t ≡ tag_of s (masked (mask_of s tag) 0 q.bytes) → PassesBody s tag len l l' o o' n t
took_masked order s tag len n l l' o o' k t q is =
    let h = q.went.held in
    let fits : Fits s q.bytes = record {
      aad_fits = h.taken.fits.aad_fits;
      text_fits = omega (arith, h.taken.fits.text_fits, h.taken.length_is, h.count_is);
    } in
    record {
      bytes = q.bytes;
      went = record { consumed = q.went.consumed; given = q.went.given; held = (fits, is); small = q.went.small };
      count = q.count;
      short = q.short;
      end = q.end;
    }

-- if the body was taken and authenticated but not decrypted, and t is the tag over it, the body has passed with the tag t
pub took_read : (s : Setting) (tag : List ℕ) (len n : ℕ) (l l' : Option (List ℕ)) (k : Reading) (t : List ℕ)
    → is_one_pass (construction_of s.suite) ≡ true → MasksByBytes s
    → (q : HasFilledRoom (HoldsReading s) (λ _. 0) [] (len - 16) l l' None None k n)
    → t ≡ tag_over s.suite s.key s.nonce s.aad q.bytes → PassesBody s tag len l l' None None n t
took_read s tag len n l l' k t one bytes q is =
    let P : List ℕ → Type 0 = λ b. (i : ℕ) → get_or b i 0 < 256 in
    record {
      bytes = q.bytes;
      went = record {
        consumed = q.went.consumed;
        given = tt;
        held = (q.went.held.taken.fits, is ∙ sym (body_tag s tag q.bytes one));
        small = masked_small (mask_of s tag) 0 q.bytes (subst P (masked_by_zeros 0 q.bytes) q.went.small) (bytes tag);
      };
      count = q.count;
      short = q.short;
      end = q.end;
    }

-- if the reading ended within the body, it differs
pub whole_short : (s : Setting) (tag : List ℕ) (len n : ℕ) (l l' o o' : Option (List ℕ)) (t : List ℕ)
    → length tag ≡ 16 → PassesBody s tag len l l' o o' n t → n < len - 16 → HasPassedReading s tag len l l' o o' Differs
whole_short s tag len n l l' o o' t size q less =
    let P : List ℕ → Type 0 = λ b. Appends o o' (masked (mask_of s tag) 0 b) in
    let all : length q.bytes ≤ len - 16 = omega (arith, q.count, less) in
    let no_tail : drop (len - 16) q.bytes ≡ [] = drop_all (len - 16) q.bytes all in
    record {
      bytes = q.bytes;
      consumed = q.went.consumed;
      given = subst P (sym (take_all (len - 16) q.bytes all)) q.went.given;
      found = λ e. omega (arith, ap length e, ap length no_tail, size);
      end = λ _. q.end less;
    }

-- if no bytes of the outlet are known, a pass has stopped under any mask
pub stopped_read : (mask other : ℕ → ℕ) (room : ℕ) (l l' : Option (List ℕ)) → Stopped mask [] room l l' None None
    → Stopped other [] room l l' None None
stopped_read mask other room l l' w = record {
  bytes = w.bytes;
  shown = w.shown;
  consumed = w.consumed;
  within = w.within;
  short = w.short;
  given = tt;
}

-- if the whole body came and then a tail, the reading has passed with the finding for both joined
pub whole_tail : (s : Setting) (tag : List ℕ) (len n : ℕ) (l l' l'' o o' : Option (List ℕ)) (t : List ℕ)
    (b : Bool) (f : Finding) → 16 ≤ len →
    (q : PassesBody s tag len l l' o o' n t) → len - 16 ≤ n → (tail : Tail tag l' l'' b) →
    (length q.bytes ≡ len - 16 → IsFinding s tag len (q.bytes ++ tail.bytes) f)
    → HasPassedReading s tag len l l'' o o' f
whole_tail s tag len n l l' l'' o o' t b f low q full tail found =
    let P : List ℕ → Type 0 = λ b. Appends o o' (masked (mask_of s tag) 0 b) in
    let size : length q.bytes ≡ len - 16 = omega (arith, q.count, q.short, full) in
    record {
      bytes = q.bytes ++ tail.bytes;
      consumed = consumes_more l l' l'' q.bytes tail.bytes q.went.consumed tail.consumed;
      given = subst P (sym (take_at q.bytes tail.bytes (len - 16) size)) q.went.given;
      found = found size;
      end = λ h. tail.end (omega (arith, length-append q.bytes tail.bytes, h, size));
    }

-- if the whole body came and then a device failed, the pass has stopped
pub stopped_tail : (s : Setting) (tag : List ℕ) (len n : ℕ) (l l' l'' o o' : Option (List ℕ)) (t y : List ℕ)
    → PassesBody s tag len l l' o o' n t → Consumes l' l'' y
    → Stopped (mask_of s tag) [] (len - 16) l l'' o o'
stopped_tail s tag len n l l' l'' o o' t y q more =
    let P : List ℕ → Type 0 = λ b. Appends o o' b in
    let same : take (length q.bytes) (masked (mask_of s tag) 0 (q.bytes ++ y))
    ≡ masked (mask_of s tag) 0 q.bytes =
    take-masked (mask_of s tag) (length q.bytes) 0 (q.bytes ++ y)
    ∙ ap (λ b. masked (mask_of s tag) 0 b) (take_at q.bytes y (length q.bytes) refl) in
    record {
      bytes = q.bytes ++ y;
      shown = length q.bytes;
      consumed = consumes_more l l' l'' q.bytes y q.went.consumed more;
      within = omega (arith, length-append q.bytes y);
      short = omega (arith, q.count, q.short);
      given = subst P (sym same) q.went.given;
    }

-- ---- if the bytes of the reading are known

-- the reading is the bytes that were taken, or both are longer than the measured length
pub front_of : (v x rest : List ℕ) (len : ℕ) → v ≡ x ++ rest → (length x ≤ len → rest ≡ [])
    → (v ≡ x) ⊎ ((len < length x) × (len < length v))
front_of v x rest len e end =
    elim (cases_lt len (length x)) [
      | inl more ↦ inr (more, omega (arith, more, ap length e, length-append x rest))
      | inr less ↦ inl (e ∙ ap (λ r. x ++ r) (end less) ∙ append-nil x)
    ]

-- a reading longer than len does not have the tag as its bytes after the first len - 16
too_long : (tag x : List ℕ) (len : ℕ) → length tag ≡ 16 → 16 ≤ len → len < length x → drop (len - 16) x ≡ tag
    → ⊥
too_long tag x len size low more e = omega (arith, ap length e, length-drop (len - 16) x, size, low, more)

-- two readings that are longer than the measured length have the same finding
long_found : (s : Setting) (tag x y : List ℕ) (len : ℕ) (f : Finding) → length tag ≡ 16 → 16 ≤ len
    → len < length x → len < length y
    → IsFinding s tag len x f → IsFinding s tag len y f
long_found s tag x y len Differs size low p q h = too_long tag y len size low q
long_found s tag x y len Unsealed size low p q h = absurd (too_long tag x len size low p h.0)
long_found s tag x y len Sealed size low p q h = absurd (too_long tag x len size low p h.0)

pub whole_found : (s : Setting) (tag : List ℕ) (len : ℕ) (v : List ℕ) (l' o o' : Option (List ℕ))
    (f : Finding) → length tag ≡ 16 → 16 ≤ len →
    HasPassedReading s tag len (Some v) l' o o' f → IsFinding s tag len v f
whole_found s tag len v None o o' f size low w = absurd w.consumed
whole_found s tag len v (Some rest) o o' f size low w =
    let P : List ℕ → Type 0 = λ x. IsFinding s tag len x f in
    elim (front_of v w.bytes rest len w.consumed w.end) [
      | inl same ↦ subst P (sym same) w.found
      | inr long ↦ long_found s tag w.bytes v len f size low long.0 long.1 w.found
    ]

pub whole_given : (s : Setting) (tag : List ℕ) (len : ℕ) (v : List ℕ) (l' o o' : Option (List ℕ))
    (f : Finding) →
    HasPassedReading s tag len (Some v) l' o o' f → Appends o o' (masked (mask_of s tag) 0 (take (len - 16) v))
whole_given s tag len v None o o' f w = absurd w.consumed
whole_given s tag len v (Some rest) o o' f w =
    let P : List ℕ → Type 0 = λ b. Appends o o' (masked (mask_of s tag) 0 b) in
    elim (front_of v w.bytes rest len w.consumed w.end) [
      | inl same ↦ subst P (ap (λ b. take (len - 16) b) (sym same)) w.given
      | inr long ↦ subst P (sym
          (ap (λ b. take (len - 16) b) w.consumed
          ∙ take-append-le (len - 16) w.bytes rest (omega (arith, long.0)))) w.given
    ]

pub stopped_given : (s : Setting) (tag : List ℕ) (n : ℕ) (v : List ℕ) (l' o o' : Option (List ℕ)) →
    Stopped (mask_of s tag) [] n (Some v) l' o o'
    → (k : ℕ) × Appends o o' (take k (masked (mask_of s tag) 0 (take n v)))
stopped_given s tag n v None o o' w = absurd w.consumed
stopped_given s tag n v (Some rest) o o' w =
    let P : List ℕ → Type 0 = λ b. Appends o o' b in
    let same : take w.shown (masked (mask_of s tag) 0 (take n v))
    ≡ take w.shown (masked (mask_of s tag) 0 w.bytes) =
    take-masked (mask_of s tag) w.shown 0 (take n v)
    ∙ ap (λ b. masked (mask_of s tag) 0 b)
    (take-take w.shown n v w.short ∙ ap (λ b. take w.shown b) w.consumed
    ∙ take-append-le w.shown w.bytes rest w.within)
    ∙ sym (take-masked (mask_of s tag) w.shown 0 w.bytes) in
    (w.shown, subst P (sym same) w.given)
