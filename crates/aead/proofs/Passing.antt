-- Pieces of a pass, one after the other.
use Rattle.std.proofs.Common.{◌≡◌, ℕ, zero, suc, List, [], ◌∷◌, ◌++◌, ◌≤◌, ◌<◌, ◌+◌, length, take, get_or}
use Rattle.std.proofs.Common.{refl, inl, inr, Err, ap, ap₂, ◌∙◌, sym, arith, append_assoc, Option, subst, length-append}
use Rattle.std.proofs.lemmas.List.{append-nil}
use Rattle.std.proofs.Math.Seq.{take-append-add}
use Rattle.std.specs.Int.Bits.{xor_zero_r}
use Rattle.std.specs.Io.KnownBytes.{Consumes, Appends}
use Rattle.octets.specs.declared.fault.Fault.{Fault}
use Rattle.octets.specs.Device.{Failed}
use Rattle.octets.specs.Masked.{masked}
use Rattle.octets.proofs.Devices.{consumes_none, consumes_more, appends_none, appends_more}
use Rattle.octets.proofs.Masks.{length-masked, masked-append}
use Rattle.aead.specs.Refusals.{DueToBoth}
use Rattle.aead.specs.Code.Passes.{HasPassed, HasFilledRoom, Stopped}

-- if all numbers of two lists are below 256, so are those of both joined
pub small-append : (x y : List ℕ) → ((i : ℕ) → get_or x i 0 < 256) → ((i : ℕ) → get_or y i 0 < 256) → (i : ℕ)
    → get_or (x ++ y) i 0 < 256
small-append [] y p q i = q i
small-append (b ∷ x) y p q zero = p 0
small-append (b ∷ x) y p q (suc i) = small-append x y (λ j. p (suc j)) q i

-- masked by zeros, a list is as it was
pub masked_by_zeros : (at : ℕ) (xs : List ℕ) → masked (λ _. 0) at xs ≡ xs
unfolding masked
masked_by_zeros at [] = refl
masked_by_zeros at (x ∷ xs) = ap₂ (λ b l. b ∷ l) (xor_zero_r x) (masked_by_zeros (suc at) xs)

-- a state that takes in nothing more has passed no bytes
pub passed_none : {M : Type 0} (holds : M → List ℕ → Type 0) (mask : ℕ → ℕ) (fed : List ℕ)
    (l o : Option (List ℕ)) (k : M) → holds k fed → HasPassed holds mask fed l l o o k []
unfolding masked
passed_none holds mask fed l o k h =
    let P : List ℕ → Type 0 = λ b. holds k b in
    record {
      consumed = consumes_none l;
      given = appends_none o;
      held = subst P (sym (append-nil fed)) h;
      small = λ i. omega arith;
    }

-- x and y joined, masked, are the masked x and then the masked y
two_masked : (mask : ℕ → ℕ) (fed x y : List ℕ)
    → masked mask (length fed) (x ++ y)
    ≡ masked mask (length fed) x ++ masked mask (length (fed ++ x)) y
two_masked mask fed x y =
    masked-append mask (length fed) x y
    ∙ ap (λ i. masked mask (length fed) x ++ masked mask i y) (sym (length-append fed x))

pub passed_more : {M : Type 0} (holds : M → List ℕ → Type 0) (mask : ℕ → ℕ) (fed x y : List ℕ)
    (l l' l'' o o' o'' : Option (List ℕ)) (k k' : M) →
    HasPassed holds mask fed l l' o o' k x → HasPassed holds mask (fed ++ x) l' l'' o' o'' k' y
    → HasPassed holds mask fed l l'' o o'' k' (x ++ y)
passed_more holds mask fed x y l l' l'' o o' o'' k k' p q =
    let P : List ℕ → Type 0 = λ b. holds k' b in
    let Q : List ℕ → Type 0 = λ b. Appends o o'' b in
    let R : List ℕ → Type 0 = λ b. (i : ℕ) → get_or b i 0 < 256 in
    record {
      consumed = consumes_more l l' l'' x y p.consumed q.consumed;
      given = subst Q (sym (two_masked mask fed x y)) (appends_more o o' o'' _ _ p.given q.given);
      held = subst P (append_assoc fed x y) q.held;
      small = subst R (sym (two_masked mask fed x y)) (small-append _ _ p.small q.small);
    }

pub stopped_more : {M : Type 0} (holds : M → List ℕ → Type 0) (mask : ℕ → ℕ) (fed x : List ℕ)
    (room room' : ℕ) (l l' l'' o o' o'' : Option (List ℕ)) (k : M) →
    HasPassed holds mask fed l l' o o' k x → Stopped mask (fed ++ x) room l' l'' o' o'' → length x + room ≤ room'
    → Stopped mask fed room' l l'' o o''
stopped_more holds mask fed x room room' l l' l'' o o' o'' k p q fits =
    let Q : List ℕ → Type 0 = λ b. Appends o o'' b in
    let texts : take (length x + q.shown) (masked mask (length fed) (x ++ q.bytes))
    ≡ masked mask (length fed) x
    ++ take q.shown (masked mask (length (fed ++ x)) q.bytes) =
    ap (λ l. take (length x + q.shown) l) (two_masked mask fed x q.bytes)
    ∙ ap (λ n. take (n + q.shown)
    (masked mask (length fed) x ++ masked mask (length (fed ++ x)) q.bytes))
    (sym (length-masked mask (length fed) x))
    ∙ take-append-add (masked mask (length fed) x) _ q.shown in
    record {
      bytes = x ++ q.bytes;
      shown = length x + q.shown;
      consumed = consumes_more l l' l'' x q.bytes p.consumed q.consumed;
      within = omega (arith, length-append x q.bytes, q.within);
      short = omega (arith, q.short, fits);
      given = subst Q (sym texts) (appends_more o o' o'' _ _ p.given q.given);
    }

-- if the piece after x does not fill its room, x and that piece are all that the reading had left
pub far_more : {M : Type 0} (holds : M → List ℕ → Type 0) (mask : ℕ → ℕ) (x : List ℕ)
    (room room' n done : ℕ) (l l' l'' o o' o'' : Option (List ℕ)) (k k' : M) →
    HasPassed holds mask [] l l' o o' k x → length x ≡ done → HasFilledRoom holds mask x room l' l'' o' o'' k' n
    → n < room → done + room ≤ room' → HasFilledRoom holds mask [] room' l l'' o o'' k' (done + n)
far_more holds mask x room room' n done l l' l'' o o' o'' k k' p size q less fits =
    record {
      bytes = x ++ q.bytes;
      went = passed_more holds mask [] x q.bytes l l' l'' o o' o'' k k' p q.went;
      count = omega (arith, length-append x q.bytes, q.count, size);
      short = omega (arith, q.short, fits);
      end = λ _. q.end less;
    }

-- if only the first bytes of a masked piece were written, the pass has stopped there
pub stopped : (mask : ℕ → ℕ) (fed bytes out : List ℕ) (room n : ℕ) (l l' o o' : Option (List ℕ))
    → Consumes l l' bytes → length bytes ≤ room →
    out ≡ masked mask (length fed) bytes → n ≤ length out → Appends o o' (take n out)
    → Stopped mask fed room l l' o o'
stopped mask fed bytes out room n l l' o o' consumed fits is within given =
    let P : List ℕ → Type 0 = λ b. Appends o o' (take n b) in
    let size : length out ≡ length bytes = ap length is ∙ length-masked mask (length fed) bytes in
    record {
      bytes = bytes;
      shown = n;
      consumed = consumed;
      within = omega arith;
      short = omega arith;
      given = subst P is given;
    }

-- if a pass failed whose outlet never fails, the reading failed
pub reading_failed : (T : Type 0) (read read' : ℕ) (f : Fault) → DueToBoth {T = T} [] read read' 0 0 (Err f)
    → Failed read read'
reading_failed T read read' f due =
    elim due [
      | inl b ↦ absurd b.0
      | inr (inl b) ↦ b.1
      | inr (inr b) ↦ absurd (elim b.1 [ inl q ↦ omega (arith, q) | inr q ↦ omega (arith, q) ])
    ]
