-- A text that comes in pieces, as it grows.
use Rattle.std.proofs.Common.{◌≡◌, ℕ, ◌+◌, ◌*◌, ◌/◌, ◌%◌, ◌<◌, List, ◌++◌, length, take, drop, sym, ap, ◌∙◌}
use Rattle.std.proofs.Common.{◌-◌, arith, replicate, refl}
use Rattle.std.proofs.Math.Seq.{take-append_seam, drop-append_seam}
use Rattle.std.proofs.lemmas.List.{length-append, length-take-le, length-drop, take-append-le, drop-append-le}
use Rattle.std.proofs.lemmas.List.{take-append-drop, take_all, drop_all, append_assoc, length-replicate, append-nil}
use Rattle.octets.specs.Bytes.{padding, pad16}
use Rattle.octets.specs.Code.Pieces.{HoldsPieces}
use Rattle.octets.specs.declared.pieces.Pieces.{Pieces}

-- after bytes that do not complete a block, the state holds the text with them
pub holds_kept : {A : Type 0} (absorbed : A → List ℕ → List ℕ → Type 0) (p n : Pieces A) (k m x : List ℕ)
    → HoldsPieces absorbed p k m
    → p.used + length x < 16 → n.core ≡ p.core
    → take (p.used + length x) n.buffer ≡ take p.used p.buffer ++ x → n.used ≡ p.used + length x
    → drop n.used n.buffer ≡ replicate (16 - n.used) 0
    → HoldsPieces absorbed n k (m ++ x)
holds_kept absorbed p n k m x h short ec eb eu ez =
    let used : p.used ≡ length m % 16 = h.rest.used_is in
    let len : length (m ++ x) ≡ length m + length x = length-append m x in
    let q : length (m ++ x) / 16 ≡ length m / 16 = omega arith in
    let front : take (length m / 16 * 16) (m ++ x)
    ≡ take (length m / 16 * 16) m = take-append-le (length m / 16 * 16) m x (omega arith) in
    let rest : drop (length m / 16 * 16) (m ++ x) ≡ drop (length m / 16 * 16) m
    ++ x = drop-append-le (length m / 16 * 16) m x (omega arith) in
    record {
      taken = rw (ec, q, front) h.taken;
      rest = record
          { used_is = omega arith; rest_is = rw (eu, q, rest) (eb ∙ ap (λ (y : List ℕ). y ++ x) h.rest.rest_is) };
      zeros = ez;
    }

-- after bytes that complete blocks, the state holds the text with them
pub holds_blocks : {A : Type 0} (absorbed : A → List ℕ → List ℕ → Type 0) (p n : Pieces A)
    (k m x blocks : List ℕ) → HoldsPieces absorbed p k m
    → (p.used + length x) % 16 ≡ 0 → blocks ≡ take p.used p.buffer ++ x
    → ((j t : List ℕ) → length t % 16 ≡ 0 → absorbed p.core j t → absorbed n.core j (t ++ blocks))
    → n.used ≡ 0 → drop n.used n.buffer ≡ replicate (16 - n.used) 0 → HoldsPieces absorbed n k (m ++ x)
holds_blocks absorbed p n k m x blocks h whole eb step eu ez =
    let used : p.used ≡ length m % 16 = h.rest.used_is in
    let f : ℕ = length m / 16 * 16 in
    let len : length (m ++ x) ≡ length m + length x = length-append m x in
    let lt : length (take f m) ≡ f = length-take-le f m (omega arith) in
    let e : length (m ++ x) / 16 * 16 ≡ length (m ++ x) = omega arith in
    let all : take (length (m ++ x) / 16 * 16) (m ++ x) ≡ take f m ++ blocks =
    ap (λ (y : ℕ). take y (m ++ x)) e ∙ take_all (length (m ++ x)) (m ++ x) (omega arith)
    ∙ ap (λ (y : List ℕ). y ++ x) (sym (take-append-drop f m))
    ∙ append_assoc (take f m) (drop f m) x
    ∙ ap (λ (y : List ℕ). take f m ++ (y ++ x)) (sym h.rest.rest_is)
    ∙ ap (λ (y : List ℕ). take f m ++ y) (sym eb) in
    record {
      taken = rw all (step k (take f m) (omega arith) h.taken);
      rest = record {
        used_is = omega arith;
        rest_is = rw (eu, e)
            (sym (drop_all (length (m ++ x)) (m ++ x) (omega arith)));
      };
      zeros = ez;
    }

-- after whole blocks and bytes that do not complete a block, from an empty buffer, the state holds the text with them
pub holds_more : {A : Type 0} (absorbed : A → List ℕ → List ℕ → Type 0) (p n : Pieces A)
    (k m x blocks rest : List ℕ) → HoldsPieces absorbed p k m → p.used ≡ 0
    → length blocks % 16 ≡ 0 → length rest < 16
    → ((j t : List ℕ) → length t % 16 ≡ 0 → absorbed p.core j t → absorbed n.core j (t ++ blocks))
    → take (length rest) n.buffer ≡ rest → n.used ≡ length rest
    → drop n.used n.buffer ≡ replicate (16 - n.used) 0
    → blocks ++ rest ≡ x → HoldsPieces absorbed n k (m ++ x)
holds_more absorbed p n k m x blocks rest h none whole short step eb eu ez joined =
    let mid : Pieces _ = record { core = n.core; buffer = p.buffer; used = p.used; in_range = p.in_range } in
    let first : HoldsPieces absorbed mid k (m ++ blocks) =
    holds_blocks absorbed p mid k m blocks blocks h (omega arith) (rw none refl) step none h.zeros in
    let all : (m ++ blocks) ++ rest ≡ m ++ x = append_assoc m blocks rest ∙ ap (λ (y : List ℕ). m ++ y) joined in
    let size : p.used + length rest ≡ length rest = omega (arith, none) in
    rw (← all)
    (holds_kept absorbed mid n k (m ++ blocks) rest first (omega arith) refl
    (rw (size, none) eb) (eu ∙ sym size) ez)

-- after bytes of any length, from an empty buffer, the state holds the text with them, if the buffer then has those after the
-- last whole block and zeros
pub holds_rest : {A : Type 0} (absorbed : A → List ℕ → List ℕ → Type 0) (p n : Pieces A) (k m x rest : List ℕ)
    → HoldsPieces absorbed p k m → p.used ≡ 0 → rest ≡ drop (length x / 16 * 16) x
    → ((j t : List ℕ) → length t % 16 ≡ 0 → absorbed p.core j t
    → absorbed n.core j (t ++ take (length x / 16 * 16) x))
    → n.buffer ≡ rest ++ replicate (16 - length rest) 0 → n.used ≡ length rest → HoldsPieces absorbed n k (m ++ x)
holds_rest absorbed p n k m x rest h none is step eb eu =
    let w : ℕ = length x / 16 * 16 in
    let zeros : List ℕ = replicate (16 - length rest) 0 in
    let front : length (take w x) ≡ w = length-take-le w x (omega arith) in
    let size : length rest ≡ length x - w = ap length is ∙ length-drop w x in
    holds_more absorbed p n k m x (take w x) rest h none (omega (arith, front)) (omega (arith, size)) step
    (ap (take (length rest)) eb ∙ take-append_seam rest zeros) eu
    (rw eu (ap (drop (length rest)) eb ∙ drop-append_seam rest zeros))
    (ap (λ (r : List ℕ). take w x ++ r) is ∙ take-append-drop w x)

-- the padding of whole blocks is empty
pub pad16_none : (m : List ℕ) → length m % 16 ≡ 0 → pad16 m ≡ m
pad16_none m whole =
    let none : (16 - length m % 16) % 16 ≡ 0 = omega (arith, whole) in
    ap (λ (n : ℕ). m ++ replicate n 0) none ∙ append-nil m

-- after the buffered block was filled with zeros, and then whole blocks, the state holds the padded text with them
pub holds_padded : {A : Type 0} (absorbed : A → List ℕ → List ℕ → Type 0) (p n : Pieces A)
    (k m x y blocks : List ℕ) → HoldsPieces absorbed p k m → 0 < p.used
    → length x % 16 ≡ 0 → blocks ≡ p.buffer ++ x
    → ((j t : List ℕ) → length t % 16 ≡ 0 → absorbed p.core j t → absorbed n.core j (t ++ blocks))
    → n.used ≡ 0 → drop n.used n.buffer ≡ replicate (16 - n.used) 0
    → pad16 m ++ x ≡ y → HoldsPieces absorbed n k y
holds_padded absorbed p n k m x y blocks h some whole eb step eu ez joined =
    let used : p.used ≡ length m % 16 = h.rest.used_is in
    let count : 16 - p.used ≡ (16 - length m % 16) % 16 = omega (arith, used, some) in
    let filled : p.buffer ≡ take p.used p.buffer ++ padding m = sym (take-append-drop p.used p.buffer)
    ∙ ap (λ (z : List ℕ). take p.used p.buffer ++ z) (h.zeros ∙ ap (λ (c : ℕ). replicate c 0) count) in
    let size : length (padding m ++ x) ≡ 16 - p.used + length x = length-append (padding m) x
    ∙ ap (λ (c : ℕ). c + length x) (length-replicate {A = ℕ} ((16 - length m % 16) % 16) 0 ∙ sym count) in
    let all : m ++ (padding m ++ x) ≡ y = sym (append_assoc m (padding m) x) ∙ joined in
    rw (← all)
    (holds_blocks absorbed p n k m (padding m ++ x) blocks h (omega (arith, size, whole, p.in_range))
    (eb ∙ ap (λ (z : List ℕ). z ++ x) filled ∙ append_assoc (take p.used p.buffer) (padding m) x) step eu ez)

-- a padded text consists of whole blocks
pub whole_padded : (m : List ℕ) → length (pad16 m) % 16 ≡ 0
whole_padded m = omega (
  arith,
  length-append m (padding m),
  length-replicate {A = ℕ} ((16 - length m % 16) % 16) 0,
)
