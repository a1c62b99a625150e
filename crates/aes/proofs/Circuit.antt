-- The circuit of the S-box, over any values that can be added and multiplied.
use Rattle.std.proofs.Common.{◌≡◌, ℕ, zero, suc, ◌+◌, ◌%◌, ◌<◌, Bool, true, false, cond, ◌&&◌, ◌==◌, List, []}
use Rattle.std.proofs.Common.{rules}
use Rattle.std.proofs.Common.{◌∷◌, map, get_or, length, min, bit_and, bit_xor, refl, sym, ap, ap₂, ◌∙◌, arith, replicate}
use Rattle.std.specs.Int.{bit_at}
use Rattle.std.proofs.lemmas.Nat.Bits.{bit_at_xor, bit_at_and, bit_at-zero}
use Rattle.std.proofs.lemmas.Bool.{and_parts, eqb-true}
use Rattle.std.proofs.lemmas.List.{get_or-map, get_or-replicate, length-replicate}
use Rattle.std.proofs.lemmas.Simd.{length-zip2, get_or-zip2}
use lib.Lanes.{zip2}
use Rattle.aes.specs.Code.Planes.{HoldsLanes}
use Rattle.aes.specs.Code.Lanes.{linear_sbox}
use Rattle.aes.proofs.Tables.{sbox_at}
use Rattle.aes.proofs.Tables.{sbox_table}
use Rattle.aes.proofs.Tested.{all_below, all_below_at, eight_cases}

-- a gate: whether it is a product or a sum, and how far back in the list of values its two operands stand
abbrev pub Gate : Type 0
Gate = Bool × ℕ × ℕ

-- the value of a gate: the product or the sum of its two operands
abbrev pub made : {A : Type 0} → (A → A → A) → (A → A → A) → A → Gate → List A → A
made mul add d g env = cond g.0 (mul (get_or env g.1 d) (get_or env g.2 d)) (add (get_or env g.1 d) (get_or env g.2 d))

-- the values of all gates and inputs, the last one first
abbrev pub run : {A : Type 0} → (A → A → A) → (A → A → A) → A → List Gate → List A → List A
run mul add d [] env = env
run mul add d (g ∷ gs) env = run mul add d gs (made mul add d g env ∷ env)

-- the gates of the S-box's circuit
abbrev pub gates : List Gate
gates =
    (false, 1, 7) ∷ (false, 6, 7) ∷ (false, 6, 4) ∷ (false, 0, 2) ∷ (false, 2, 4) ∷ (false, 6, 0) ∷
    (false, 2, 9) ∷ (true, 1, 2) ∷ (false, 15, 3) ∷ (false, 15, 2) ∷ (false, 17, 12) ∷ (false, 18, 15) ∷
    (false, 5, 14) ∷ (false, 1, 3) ∷ (false, 12, 1) ∷ (true, 2, 11) ∷ (false, 1, 2) ∷ (false, 17, 3) ∷
    (false, 7, 3) ∷ (true, 7, 5) ∷ (false, 6, 18) ∷ (true, 6, 10) ∷ (false, 0, 2) ∷ (true, 2, 22) ∷
    (false, 19, 28) ∷ (false, 4, 32) ∷ (true, 8, 17) ∷ (false, 26, 6) ∷ (true, 11, 25) ∷ (true, 29, 4) ∷
    (false, 0, 14) ∷ (false, 25, 20) ∷ (false, 9, 1) ∷ (false, 25, 9) ∷ (false, 34, 21) ∷ (true, 0, 3) ∷
    (false, 12, 9) ∷ (false, 4, 18) ∷ (false, 2, 22) ∷ (false, 19, 10) ∷ (false, 6, 0) ∷ (false, 1, 2) ∷
    (false, 5, 19) ∷ (false, 1, 33) ∷ (false, 3, 16) ∷ (true, 0, 1) ∷ (false, 2, 8) ∷ (false, 9, 1) ∷
    (false, 5, 22) ∷ (false, 0, 4) ∷ (false, 1, 4) ∷ (true, 3, 1) ∷ (false, 0, 3) ∷ (false, 8, 0) ∷
    (false, 3, 1) ∷ (true, 4, 8) ∷ (true, 7, 1) ∷ (false, 0, 3) ∷ (false, 1, 7) ∷ (false, 3, 21) ∷
    (false, 0, 7) ∷ (true, 3, 29) ∷ (true, 2, 3) ∷ (true, 45, 3) ∷ (true, 55, 4) ∷ (false, 18, 2) ∷
    (false, 0, 8) ∷ (false, 9, 14) ∷ (true, 15, 68) ∷ (true, 8, 55) ∷ (false, 10, 4) ∷ (false, 10, 4) ∷
    (true, 6, 67) ∷ (true, 2, 52) ∷ (true, 3, 73) ∷ (true, 3, 58) ∷ (true, 72, 8) ∷ (false, 8, 2) ∷
    (true, 65, 10) ∷ (false, 17, 2) ∷ (true, 55, 27) ∷ (true, 75, 15) ∷ (false, 8, 3) ∷ (false, 14, 19) ∷
    (false, 1, 6) ∷ (false, 15, 9) ∷ (false, 0, 12) ∷ (false, 23, 5) ∷ (true, 21, 73) ∷ (true, 28, 77) ∷
    (false, 28, 9) ∷ (true, 19, 88) ∷ (false, 2, 0) ∷ (false, 4, 17) ∷ (true, 83, 27) ∷ (false, 22, 2) ∷
    (true, 38, 61) ∷ (false, 10, 24) ∷ (false, 4, 2) ∷ (false, 14, 34) ∷ (false, 4, 20) ∷ (false, 8, 16) ∷
    (false, 3, 2) ∷ (false, 15, 1) ∷ (false, 1, 6) ∷ (false, 17, 30) ∷ (false, 3, 15) ∷ (false, 10, 6) ∷
    (false, 21, 7) ∷ (false, 17, 14) ∷ (false, 26, 2) ∷ (false, 5, 12) ∷ (false, 2, 7) ∷ (false, 30, 5) ∷
    (false, 16, 0) ∷ []

-- the places of the eight result bits in the list of values
abbrev pub places : List ℕ
places = 11 ∷ 3 ∷ 8 ∷ 4 ∷ 1 ∷ 2 ∷ 0 ∷ 6 ∷ []

-- the eight results of the circuit
abbrev pub outcome : {A : Type 0} → (A → A → A) → (A → A → A) → A → List A → List A
outcome mul add d env = map (λ i. get_or (run mul add d gates env) i d) places

-- the sum of two bits
abbrev pub plus2 : ℕ → ℕ → ℕ
plus2 a b = (a + b) % 2

-- the eight lowest bits of a number
abbrev pub bits8 : ℕ → List ℕ
bits8 x = map (bit_at x) (0 ∷ 1 ∷ 2 ∷ 3 ∷ 4 ∷ 5 ∷ 6 ∷ 7 ∷ [])

abbrev pub same_list : List ℕ → List ℕ → Bool
same_list [] [] = true
same_list [] (y ∷ ys) = false
same_list (x ∷ xs) [] = false
same_list (x ∷ xs) (y ∷ ys) = (x == y) && same_list xs ys

-- the circuit computes the S-box without its constant, tested at each byte
computed : all_below (λ x. same_list (outcome min plus2 0 (bits8 x)) (bits8 (bit_xor (get_or sbox_table x 0) 0x63))) 256 ≡ true
computed = refl

-- two lists that are tested equal have equal items
pub same_at : (xs ys : List ℕ) (i : ℕ) → same_list xs ys ≡ true → get_or xs i 0 ≡ get_or ys i 0
same_at [] [] i h = refl
same_at [] (y ∷ ys) i h = search rules
same_at (x ∷ xs) [] i h = search rules
same_at (x ∷ xs) (y ∷ ys) zero h = eqb-true x y (and_parts (x == y) (same_list xs ys) h).0
same_at (x ∷ xs) (y ∷ ys) (suc i) h = same_at xs ys i (and_parts (x == y) (same_list xs ys) h).1

-- item j of `bits8 x` is bit j of x
pub bits_at : (x j : ℕ) → j < 8 → get_or (bits8 x) j 0 ≡ bit_at x j
bits_at x = eight_cases (λ j. get_or (bits8 x) j 0 ≡ bit_at x j) refl refl refl refl refl refl refl refl

-- ---- bits of planes
-- a plane of n lanes that are all 0
abbrev pub none : ℕ → List ℕ
none n = replicate n 0

-- bit k of lane l of a plane
abbrev pub at : ℕ → ℕ → List ℕ → ℕ
at l k v = bit_at (get_or v l 0) k

-- each plane has n lanes
abbrev pub Long : ℕ → List (List ℕ) → Type 0
Long n env = (i : ℕ) → length (get_or env i (none n)) ≡ n

-- an item of a mapped list is the image of the item, also past the end
mapped : {A B : Type 0} (h : A → B) (d : A) (e : B) → h d ≡ e → (xs : List A) (i : ℕ)
    → get_or (map h xs) i e ≡ h (get_or xs i d)
mapped h d e same [] i = sym same
mapped h d e same (x ∷ xs) zero = refl
mapped h d e same (x ∷ xs) (suc i) = mapped h d e same xs i

-- a plane of zeros has no bits
pub at_none : (n l k : ℕ) → l < n → at l k (none n) ≡ 0
at_none n l k h = ap (λ m. bit_at m k) (get_or-replicate {A = ℕ} n l 0 0 h) ∙ bit_at-zero k

pub at_sum : {n : ℕ} (l k : ℕ) (x y : List ℕ) → length x ≡ n → length y ≡ n → l < n
    → at l k (zip2 bit_xor x y) ≡ plus2 (at l k x) (at l k y)
at_sum l k x y hx hy h =
    ap (λ m. bit_at m k) (get_or-zip2 bit_xor x y l 0 0 0 (omega (arith, hx, h)) (omega (arith, hy, h)))
    ∙ bit_at_xor (get_or x l 0) (get_or y l 0) k

pub at_product : {n : ℕ} (l k : ℕ) (x y : List ℕ) → length x ≡ n → length y ≡ n → l < n
    → at l k (zip2 bit_and x y) ≡ min (at l k x) (at l k y)
at_product l k x y hx hy h =
    ap (λ m. bit_at m k) (get_or-zip2 bit_and x y l 0 0 0 (omega (arith, hx, h)) (omega (arith, hy, h)))
    ∙ bit_at_and (get_or x l 0) (get_or y l 0) k

-- the gates as operations on planes of n lanes
module _ (n : ℕ) where
  abbrev make : Gate → List (List ℕ) → List ℕ
  make = made (zip2 bit_and) (zip2 bit_xor) (none n)

  abbrev run_planes : List Gate → List (List ℕ) → List (List ℕ)
  run_planes = run (zip2 bit_and) (zip2 bit_xor) (none n)

  -- a gate on planes of n lanes makes a plane of n lanes
  made_long : (b : Bool) (i j : ℕ) (env : List (List ℕ)) → Long n env → length (make (b, i, j) env) ≡ n
  made_long true i j env h =
      length-zip2 bit_and (get_or env i (none n)) (get_or env j (none n)) (h i ∙ sym (h j)) ∙ h i
  made_long false i j env h =
      length-zip2 bit_xor (get_or env i (none n)) (get_or env j (none n)) (h i ∙ sym (h j)) ∙ h i

  -- a bit of the plane that a gate makes is the value of the gate on the same bits of the given planes
  made_bits : (l k : ℕ) → l < n → (b : Bool) (i j : ℕ) (env : List (List ℕ)) → Long n env
      → at l k (make (b, i, j) env) ≡ made min plus2 0 (b, i, j) (map (at l k) env)
  made_bits l k h true i j env long =
      at_product l k (get_or env i (none n)) (get_or env j (none n)) (long i) (long j) h
      ∙ sym (ap₂ min (mapped (at l k) (none n) 0 (at_none n l k h) env i)
      (mapped (at l k) (none n) 0 (at_none n l k h) env j))
  made_bits l k h false i j env long =
      at_sum l k (get_or env i (none n)) (get_or env j (none n)) (long i) (long j) h
      ∙ sym (ap₂ plus2 (mapped (at l k) (none n) 0 (at_none n l k h) env i)
      (mapped (at l k) (none n) 0 (at_none n l k h) env j))

  -- if planes have n lanes, and one more has n lanes, all of them have
  longer : (v : List ℕ) (env : List (List ℕ)) → length v ≡ n → Long n env → Long n (v ∷ env)
  longer v env h long zero = h
  longer v env h long (suc i) = long i

  -- every plane that the gates make has n lanes
  run_long : (gs : List Gate) (env : List (List ℕ)) → Long n env → Long n (run_planes gs env)
  run_long [] env h = h
  run_long ((b, i, j) ∷ gs) env h =
      run_long gs (make (b, i, j) env ∷ env) (longer (make (b, i, j) env) env (made_long b i j env h) h)

  -- the bits of the planes that the gates make are the values of the gates on the same bits of the given planes
  run_bits : (l k : ℕ) → l < n → (gs : List Gate) (env : List (List ℕ)) → Long n env
      → map (at l k) (run_planes gs env) ≡ run min plus2 0 gs (map (at l k) env)
  run_bits l k h [] env long = refl
  run_bits l k h ((b, i, j) ∷ gs) env long =
      run_bits l k h gs (make (b, i, j) env ∷ env)
      (longer (make (b, i, j) env) env (made_long b i j env long) long)
      ∙ ap (λ m. run min plus2 0 gs (m ∷ map (at l k) env)) (made_bits l k h b i j env long)

-- the first eight planes of a list
abbrev pub eight : List (List ℕ) → List (List ℕ)
eight p =
    get_or p 0 [] ∷ get_or p 1 [] ∷ get_or p 2 [] ∷ get_or p 3 [] ∷ get_or p 4 [] ∷ get_or p 5 [] ∷
    get_or p 6 [] ∷ get_or p 7 [] ∷ []

eight_long : (n : ℕ) (p : List (List ℕ)) → ((j : ℕ) → j < 8 → length (get_or p j []) ≡ n) → Long n (eight p)
eight_long n p h zero = h 0 (omega arith)
eight_long n p h (suc zero) = h 1 (omega arith)
eight_long n p h (suc (suc zero)) = h 2 (omega arith)
eight_long n p h (suc (suc (suc zero))) = h 3 (omega arith)
eight_long n p h (suc (suc (suc (suc zero)))) = h 4 (omega arith)
eight_long n p h (suc (suc (suc (suc (suc zero))))) = h 5 (omega arith)
eight_long n p h (suc (suc (suc (suc (suc (suc zero)))))) = h 6 (omega arith)
eight_long n p h (suc (suc (suc (suc (suc (suc (suc zero))))))) = h 7 (omega arith)
eight_long n p h (suc (suc (suc (suc (suc (suc (suc (suc i)))))))) = length-replicate {A = ℕ} n 0

-- bit k of lane l of each of eight planes, together, are the bits of the byte that they hold there
eight_bits : (n : ℕ) (p : List (List ℕ)) (g : ℕ → ℕ → ℕ) (l k : ℕ) → HoldsLanes n p g → l < n → k < 8
    → map (at l k) (eight p) ≡ bits8 (g l k)
eight_bits n p g l k h hl hk =
    ap₂ ◌∷◌ (h.each 0 l k (omega arith) hl hk) (
    ap₂ ◌∷◌ (h.each 1 l k (omega arith) hl hk) (
    ap₂ ◌∷◌ (h.each 2 l k (omega arith) hl hk) (
    ap₂ ◌∷◌ (h.each 3 l k (omega arith) hl hk) (
    ap₂ ◌∷◌ (h.each 4 l k (omega arith) hl hk) (
    ap₂ ◌∷◌ (h.each 5 l k (omega arith) hl hk) (
    ap₂ ◌∷◌ (h.each 6 l k (omega arith) hl hk) (
    ap₂ ◌∷◌ (h.each 7 l k (omega arith) hl hk) refl)))))))

-- the planes of n lanes that the circuit computes
abbrev pub planes_out : ℕ → List (List ℕ) → List (List ℕ)
planes_out n p = outcome (zip2 bit_and) (zip2 bit_xor) (none n) (eight p)

-- plane j of the results is the value of the gates at the result's place
plane_out : (n : ℕ) (p : List (List ℕ)) (j : ℕ) → j < 8
    → get_or (planes_out n p) j [] ≡ get_or (run_planes n gates (eight p)) (get_or places j 0) (none n)
plane_out n p j h =
    get_or-map (λ i. get_or (run_planes n gates (eight p)) i (none n)) places j 0 [] (omega arith)

-- the circuit computes the S-box without its constant of each byte in the planes
pub substituted : (n : ℕ) (p : List (List ℕ)) (g : ℕ → ℕ → ℕ) → ((l k : ℕ) → g l k < 256) → HoldsLanes n p g
    → HoldsLanes n (planes_out n p) (λ l k. linear_sbox (g l k))
unfolding linear_sbox
substituted n p g small h = record {
  count = refl;
  long = λ j hj. ap length (plane_out n p j hj)
      ∙ run_long n gates (eight p) (eight_long n p h.long) (get_or places j 0);
  each = λ j l k hj hl hk.
      ap (at l k) (plane_out n p j hj)
      ∙ sym (mapped (at l k) (none n) 0 (at_none n l k hl) (run_planes n gates (eight p)) (get_or places j 0))
      ∙ ap (λ e. get_or e (get_or places j 0) 0)
      (run_bits n l k hl gates (eight p) (eight_long n p h.long)
      ∙ ap (run min plus2 0 gates) (eight_bits n p g l k h hl hk))
      ∙ sym (get_or-map (λ i. get_or (run min plus2 0 gates (bits8 (g l k))) i 0) places j 0 0 (omega arith))
      ∙ same_at (outcome min plus2 0 (bits8 (g l k))) (bits8 (bit_xor (get_or sbox_table (g l k) 0) 0x63)) j
      (all_below_at (λ x. same_list (outcome min plus2 0 (bits8 x)) (bits8 (bit_xor (get_or sbox_table x 0) 0x63))) 256
      (g l k) computed (small l k))
      ∙ bits_at (bit_xor (get_or sbox_table (g l k) 0) 0x63) j hj
      ∙ ap (λ n. bit_at (bit_xor n 0x63) j) (sbox_at (g l k) (small l k));
}
