-- Eight planes of bits: sums, doubles and moved lanes.
use Rattle.std.proofs.Common.{◌≡◌, ℕ, ◌+◌, ◌-◌, ◌<◌, ◌==◌, ◌&&◌, true, ltb, List, [], inl, inr}
use Rattle.std.proofs.lemmas.Bool.{and_parts, cases_lt, eqb-true}
use Rattle.std.proofs.Common.{◌∷◌, ◌++◌, map, get_or, length, bit_xor, refl, sym, ap, ap₂, ◌∙◌, arith, ltb-true}
use Rattle.std.specs.Int.{bit_at}
use Rattle.std.proofs.lemmas.Nat.Bits.{bit_at_xor}
use Rattle.std.proofs.lemmas.List.{get_or-map, get_or_append_left, get_or-append_right, length-map}
use Rattle.std.proofs.lemmas.Simd.{length-zip2}
use lib.Lanes.{zip2}
use Rattle.aes.specs.Field.{times}
use Rattle.aes.specs.Code.Planes.{HoldsBits, HoldsLanes}
use Rattle.aes.specs.declared.planes.TheConstants.{ALL}
use Rattle.aes.proofs.Tested.{all_below, all_below_at, eight_cases}
use Rattle.aes.proofs.Multiples.{double, double_is}
use Rattle.aes.proofs.Circuit.{eight, at, at_sum, plus2, bits8, bits_at, same_list, same_at}

-- an operation on eight planes acts on each of them
pub each_of : (F : List ℕ → List ℕ) (p : List (List ℕ)) (j : ℕ) → j < 8
    → get_or (map F (eight p)) j [] ≡ F (get_or p j [])
each_of F p = eight_cases (λ j. get_or (map F (eight p)) j [] ≡ F (get_or p j [])) refl refl refl refl refl refl refl refl

-- an operation on two lists of eight planes acts on each pair
each_two : (F : List ℕ → List ℕ → List ℕ) (p q : List (List ℕ)) (j : ℕ) → j < 8
    → get_or (zip2 F (eight p) (eight q)) j [] ≡ F (get_or p j []) (get_or q j [])
each_two F p q =
    eight_cases (λ j. get_or (zip2 F (eight p) (eight q)) j [] ≡ F (get_or p j []) (get_or q j []))
    refl refl refl refl refl refl refl refl

-- planes whose lanes are brought from other places hold the bytes of those places, if the places are tested to be `from`
pub moved : (n m : ℕ) (ps : List ℕ) (from : ℕ → ℕ) → length ps ≡ m
    → all_below (λ i. ltb (get_or ps i 0) n && (get_or ps i 0 == from i)) m ≡ true
    → (p : List (List ℕ)) (g : ℕ → ℕ → ℕ) → HoldsLanes n p g
    → HoldsLanes m (map (λ v. map (λ i. get_or (v ++ v) i 0) ps) (eight p)) (λ l k. g (from l) k)
moved n m ps from long test p g h = record {
  count = refl;
  long = λ j hj. ap length (each_of (λ v. map (λ i. get_or (v ++ v) i 0) ps) p j hj)
      ∙ length-map ps (λ i. get_or (get_or p j [] ++ get_or p j []) i 0) ∙ long;
  each = λ j l k hj hl hk.
      let both = and_parts (ltb (get_or ps l 0) n) (get_or ps l 0 == from l)
      (all_below_at (λ i. ltb (get_or ps i 0) n && (get_or ps i 0 == from i)) m l test hl) in
      let small : get_or ps l 0 < n = ltb-true (get_or ps l 0) n both.0 in
      let wide = h.long j hj in
      ap (λ v. at l k v) (each_of (λ v. map (λ i. get_or (v ++ v) i 0) ps) p j hj)
      ∙ ap (λ n. bit_at n k) (get_or-map (λ i. get_or (get_or p j [] ++ get_or p j []) i 0) ps l 0 0 (omega (arith, long, hl))
      ∙ get_or_append_left (get_or p j []) (get_or p j []) 0 (get_or ps l 0) (omega (arith, small, wide)))
      ∙ h.each j (get_or ps l 0) k hj small hk
      ∙ ap (λ (i : ℕ). bit_at (g i k) j) (eqb-true (get_or ps l 0) (from l) both.1);
}

-- planes of 16 lanes, with others of 16 lanes put after them, hold the bytes of both
pub both : (p q : List (List ℕ)) (g : ℕ → ℕ → ℕ) → HoldsLanes 16 p g → HoldsLanes 16 q (λ l k. g (16 + l) k)
    → HoldsBits (zip2 (λ v w. map (λ i. get_or (v ++ w) i 0) ALL) (eight p) (eight q)) g
both p q g hp hq =
    let F : List ℕ → List ℕ → List ℕ = λ v w. map (λ i. get_or (v ++ w) i 0) ALL in
    record {
      count = refl;
      long = λ j hj. ap length (each_two F p q j hj);
      each = λ j l k hj hl hk.
          let v : List ℕ = get_or p j [] in
          let w : List ℕ = get_or q j [] in
          let place : get_or ALL l 0 ≡ l = eqb-true (get_or ALL l 0) l (all_below_at (λ i. get_or ALL i 0 == i) 32 l refl hl) in
          let brought : get_or (F v w) l 0 ≡ get_or (v ++ w) l 0 =
          get_or-map (λ i. get_or (v ++ w) i 0) ALL l 0 0 hl ∙ ap (λ (i : ℕ). get_or (v ++ w) i 0) place in
          ap (at l k) (each_two F p q j hj) ∙ ap (λ n. bit_at n k) brought
          ∙ elim (cases_lt l 16) [
            | inl low ↦ ap (λ n. bit_at n k) (get_or_append_left v w 0 l (omega (arith, low, hp.long j hj)))
                ∙ hp.each j l k hj low hk
            | inr high ↦
                let back : 16 + (l - 16) ≡ l = omega (arith, high) in
                ap (λ n. bit_at n k) (get_or-append_right v w 16 l 0 (hp.long j hj) high)
                ∙ hq.each j (l - 16) k hj (omega (arith, hl, high)) hk ∙ ap (λ (i : ℕ). bit_at (g i k) j) back
          ];
    }

-- the XOR of the planes of two lists of bytes holds the XORs of the bytes
pub added : {n : ℕ} (p q : List (List ℕ)) (g h : ℕ → ℕ → ℕ) → HoldsLanes n p g → HoldsLanes n q h
    → HoldsLanes n (zip2 (zip2 bit_xor) (eight p) (eight q)) (λ l k. bit_xor (g l k) (h l k))
added p q g h hp hq = record {
  count = refl;
  long = λ j hj. ap length (each_two (zip2 bit_xor) p q j hj)
      ∙ length-zip2 bit_xor (get_or p j []) (get_or q j []) (hp.long j hj ∙ sym (hq.long j hj)) ∙ hp.long j hj;
  each = λ j l k hj hl hk.
      ap (at l k) (each_two (zip2 bit_xor) p q j hj)
      ∙ at_sum l k (get_or p j []) (get_or q j []) (hp.long j hj) (hq.long j hj) hl
      ∙ ap₂ plus2 (hp.each j l k hj hl hk) (hq.each j l k hj hl hk)
      ∙ sym (bit_at_xor (g l k) (h l k) j);
}

-- ---- doubles
-- the bits of twice the byte whose bits are b
abbrev doubled_bits : List ℕ → List ℕ
doubled_bits b =
    get_or b 7 0 ∷ plus2 (get_or b 0 0) (get_or b 7 0) ∷ get_or b 1 0 ∷ plus2 (get_or b 2 0) (get_or b 7 0) ∷
    plus2 (get_or b 3 0) (get_or b 7 0) ∷ get_or b 4 0 ∷ get_or b 5 0 ∷ get_or b 6 0 ∷ []

doubles_computed : all_below (λ x. same_list (doubled_bits (bits8 x)) (bits8 (double x))) 256 ≡ true
doubles_computed = refl

-- `doubled_bits` gives the bits of twice a byte
doubled_bit : (x j : ℕ) → x < 256 → j < 8 → get_or (doubled_bits (bits8 x)) j 0 ≡ bit_at (times 2 x) j
doubled_bit x j hx hj =
    same_at (doubled_bits (bits8 x)) (bits8 (double x)) j
    (all_below_at (λ x. same_list (doubled_bits (bits8 x)) (bits8 (double x))) 256 x doubles_computed hx)
    ∙ bits_at (double x) j hj ∙ ap (λ n. bit_at n j) (sym (double_is x hx))

-- the planes of twice each byte
abbrev pub doubled_planes : List (List ℕ) → List (List ℕ)
doubled_planes p =
    get_or p 7 [] ∷ zip2 bit_xor (get_or p 0 []) (get_or p 7 []) ∷ get_or p 1 [] ∷
    zip2 bit_xor (get_or p 2 []) (get_or p 7 []) ∷ zip2 bit_xor (get_or p 3 []) (get_or p 7 []) ∷ get_or p 4 [] ∷
    get_or p 5 [] ∷ get_or p 6 [] ∷ []

-- a bit of the XOR of plane i and the last plane is the sum of those bits of the byte
with_last : {n : ℕ} (p : List (List ℕ)) (g : ℕ → ℕ → ℕ) → HoldsLanes n p g → (i l k : ℕ) → i < 8 → l < n → k < 8
    → at l k (zip2 bit_xor (get_or p i []) (get_or p 7 [])) ≡ plus2 (bit_at (g l k) i) (bit_at (g l k) 7)
with_last p g h i l k hi hl hk =
    at_sum l k (get_or p i []) (get_or p 7 []) (h.long i hi) (h.long 7 (omega arith)) hl
    ∙ ap₂ plus2 (h.each i l k hi hl hk) (h.each 7 l k (omega arith) hl hk)

-- a bit of a plane of doubles is that of `doubled_bits` of the byte
plane_doubled : {n : ℕ} (p : List (List ℕ)) (g : ℕ → ℕ → ℕ) → HoldsLanes n p g → (j l k : ℕ) → j < 8 → l < n → k < 8
    → at l k (get_or (doubled_planes p) j []) ≡ get_or (doubled_bits (bits8 (g l k))) j 0
plane_doubled p g h j l k hj hl hk =
    eight_cases (λ j. at l k (get_or (doubled_planes p) j []) ≡ get_or (doubled_bits (bits8 (g l k))) j 0)
    (h.each 7 l k (omega arith) hl hk) (with_last p g h 0 l k (omega arith) hl hk) (h.each 1 l k (omega arith) hl hk)
    (with_last p g h 2 l k (omega arith) hl hk) (with_last p g h 3 l k (omega arith) hl hk)
    (h.each 4 l k (omega arith) hl hk) (h.each 5 l k (omega arith) hl hk) (h.each 6 l k (omega arith) hl hk) j hj

-- planes of doubles have as many lanes as the planes from which they are computed
long_doubled : (n : ℕ) (p : List (List ℕ)) → ((j : ℕ) → j < 8 → length (get_or p j []) ≡ n) → (j : ℕ) → j < 8
    → length (get_or (doubled_planes p) j []) ≡ n
long_doubled n p h =
    let with_last : (i : ℕ) → i < 8 → length (zip2 bit_xor (get_or p i []) (get_or p 7 [])) ≡ n = λ i hi.
    length-zip2 bit_xor (get_or p i []) (get_or p 7 []) (h i hi ∙ sym (h 7 (omega arith))) ∙ h i hi in
    eight_cases (λ j. length (get_or (doubled_planes p) j []) ≡ n) (h 7 (omega arith)) (with_last 0 (omega arith))
    (h 1 (omega arith)) (with_last 2 (omega arith)) (with_last 3 (omega arith)) (h 4 (omega arith)) (h 5 (omega arith))
    (h 6 (omega arith))

-- planes of doubles hold twice each byte
pub twice : {n : ℕ} (p : List (List ℕ)) (g : ℕ → ℕ → ℕ) → ((l k : ℕ) → g l k < 256) → HoldsLanes n p g
    → HoldsLanes n (doubled_planes p) (λ l k. times 2 (g l k))
twice {n} p g small h = record {
  count = refl;
  long = λ j hj. long_doubled n p h.long j hj;
  each = λ j l k hj hl hk. plane_doubled p g h j l k hj hl hk ∙ doubled_bit (g l k) j (small l k) hj;
}
