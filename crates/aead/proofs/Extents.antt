-- Facts about a reading that is taken to its end.
use Rattle.std.proofs.Common.{◌≡◌, ℕ, List, [], ◌++◌, ◌≤◌, ◌<◌, inl, inr, Bool, false, length, take, refl}
use Rattle.std.proofs.Common.{ap, ◌∙◌, sym, arith, Option, Some, None, subst, length-append}
use Rattle.std.specs.Io.KnownBytes.{Consumes, Appends}
use Rattle.std.proofs.lemmas.List.{take_all, take_at, take-append-le}
use Rattle.octets.specs.Masked.{masked}
use Rattle.octets.proofs.Devices.{consumes_more}
use Rattle.octets.proofs.Masks.{take-masked}
use Rattle.aead.specs.Code.Passes.{HasFilledRoom, Stopped}
use Rattle.aead.specs.Code.Extents.{IsExtent, HasPassedAll, More}
use Rattle.aead.proofs.Findings.{front_of}

-- a reading that ended before the length was taken to its end
pub all_short : {M : Type 0} (holds : M → List ℕ → Type 0) (mask : ℕ → ℕ) (len n : ℕ)
    (l l' o o' : Option (List ℕ)) (k : M)
    → HasFilledRoom holds mask [] len l l' o o' k n → n < len → HasPassedAll holds mask len l l' o o' k (Some n)
all_short holds mask len n l l' o o' k q less =
    let P : List ℕ → Type 0 = λ b. Appends o o' (masked mask 0 b) in
    let Q : List ℕ → Type 0 = λ b. holds k b in
    let all : take len q.bytes ≡ q.bytes = take_all len q.bytes (omega (arith, q.count, less)) in
    record {
      bytes = q.bytes;
      consumed = q.went.consumed;
      given = subst P (sym all) q.went.given;
      held = subst Q (sym all) q.went.held;
      is = (q.count, omega (arith, less));
      end = λ _. q.end less;
    }

-- a reading that came to the length, and then had more bytes or no more, was taken to its end or past the length
pub all_more : {M : Type 0} (holds : M → List ℕ → Type 0) (mask : ℕ → ℕ) (len n : ℕ)
    (l l' l'' o o' : Option (List ℕ)) (k : M) (extent : Option ℕ) (b : Bool)
    → (q : HasFilledRoom holds mask [] len l l' o o' k n) → len ≤ n →
    (more : More l' l'' b) →
    (length q.bytes ≡ len → IsExtent len (q.bytes ++ more.bytes) extent
    × (length (q.bytes ++ more.bytes) ≤ len → b ≡ false)) →
    HasPassedAll holds mask len l l'' o o' k extent
all_more holds mask len n l l' l'' o o' k extent b q full more found =
    let P : List ℕ → Type 0 = λ b. Appends o o' (masked mask 0 b) in
    let Q : List ℕ → Type 0 = λ b. holds k b in
    let size : length q.bytes ≡ len = omega (arith, q.count, q.short, full) in
    let front : take len (q.bytes ++ more.bytes) ≡ q.bytes = take_at q.bytes more.bytes len size in
    record {
      bytes = q.bytes ++ more.bytes;
      consumed = consumes_more l l' l'' q.bytes more.bytes q.went.consumed more.consumed;
      given = subst P (sym front) q.went.given;
      held = subst Q (sym front) q.went.held;
      is = (found size).0;
      end = λ h. (more.none ((found size).1 h)).1;
    }

-- if a device fails when it is asked for more, the pass has stopped
pub all_stopped : {M : Type 0} (holds : M → List ℕ → Type 0) (mask : ℕ → ℕ) (len n : ℕ)
    (l l' l'' o o' : Option (List ℕ)) (k : M) (y : List ℕ)
    → HasFilledRoom holds mask [] len l l' o o' k n → Consumes l' l'' y → Stopped mask [] len l l'' o o'
all_stopped holds mask len n l l' l'' o o' k y q more =
    let P : List ℕ → Type 0 = λ b. Appends o o' b in
    let same : take (length q.bytes) (masked mask 0 (q.bytes ++ y))
    ≡ masked mask 0 q.bytes =
    take-masked mask (length q.bytes) 0 (q.bytes ++ y)
    ∙ ap (λ b. masked mask 0 b) (take_at q.bytes y (length q.bytes) refl) in
    record {
      bytes = q.bytes ++ y;
      shown = length q.bytes;
      consumed = consumes_more l l' l'' q.bytes y q.went.consumed more;
      within = omega (arith, length-append q.bytes y);
      short = omega (arith, q.count, q.short);
      given = subst P (sym same) q.went.given;
    }

-- ---- if the bytes of the reading are known

-- if two lists are longer than the length, they have the same extent
extent_of : (len : ℕ) (x y : List ℕ) (e : Option ℕ) → len < length x → len < length y → IsExtent len x e
    → IsExtent len y e
extent_of len x y None p q h = q
extent_of len x y (Some n) p q h = absurd (omega (arith, p, h.0, h.1))

-- the bytes written, the bytes held and the extent are those of the reading
pub all_known : {M : Type 0} (holds : M → List ℕ → Type 0) (mask : ℕ → ℕ) (len : ℕ) (x : List ℕ)
    (l' o o' : Option (List ℕ)) (k : M) (e : Option ℕ) → HasPassedAll holds mask len (Some x) l' o o' k e →
    Appends o o' (masked mask 0 (take len x)) × holds k (take len x) × IsExtent len x e
all_known holds mask len x None o o' k e w = absurd w.consumed
all_known holds mask len x (Some rest) o o' k e w =
    let P : List ℕ → Type 0 = λ b. Appends o o' (masked mask 0 b) in
    let Q : List ℕ → Type 0 = λ b. holds k b in
    let R : List ℕ → Type 0 = λ b. IsExtent len b e in
    elim (front_of x w.bytes rest len w.consumed w.end) [
      | inl same ↦
          let e = ap (λ b. take len b) (sym same) in
          (subst P e w.given, subst Q e w.held, subst R (sym same) w.is)
      | inr long ↦
          let e : take len w.bytes ≡ take len x =
          sym (ap (λ b. take len b) w.consumed ∙ take-append-le len w.bytes rest (omega (arith, long.0))) in
          (subst P e w.given, subst Q e w.held, extent_of len w.bytes x _ long.0 long.1 w.is)
    ]

-- after a device failed, the bytes written are a beginning of the masked reading, within the length
pub all_stopped_known : (mask : ℕ → ℕ) (len : ℕ) (x : List ℕ) (l' o o' : Option (List ℕ))
    → Stopped mask [] len (Some x) l' o o' →
    (k : ℕ) × (k ≤ length x) × (k ≤ len) × Appends o o' (take k (masked mask 0 x))
all_stopped_known mask len x None o o' w = absurd w.consumed
all_stopped_known mask len x (Some rest) o o' w =
    let P : List ℕ → Type 0 = λ b. Appends o o' b in
    let same : take w.shown (masked mask 0 x) ≡ take w.shown (masked mask 0 w.bytes) =
    take-masked mask w.shown 0 x
    ∙ ap (λ b. masked mask 0 b)
    (ap (λ b. take w.shown b) w.consumed ∙ take-append-le w.shown w.bytes rest w.within)
    ∙ sym (take-masked mask w.shown 0 w.bytes) in (
      w.shown,
      omega (arith, ap length w.consumed, length-append w.bytes rest, w.within),
      w.short,
      subst P (sym same) w.given,
    )
