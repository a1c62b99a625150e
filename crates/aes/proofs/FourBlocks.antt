-- Blocks in a vector: lanes, look-ups and the other basis.
use Rattle.std.proofs.Common.{◌≡◌, ℕ, zero, suc, ◌+◌, ◌*◌, ◌/◌, ◌%◌, ◌<◌, Bool, true, false, cond, ◌&&◌}
use Rattle.std.proofs.Common.{◌||◌, ◌==◌, T, ltb, leb, List, [], ◌∷◌, ◌++◌, map, get_or, length, replicate}
use Rattle.std.proofs.Common.{refl, sym, ap, ap₂, subst, ◌∙◌, arith, bit_and, bit_xor, w8, Fits, ltb-true, lt-ltb}
use Rattle.std.proofs.lemmas.Nat.{xor_shr, xor_mod, xor_of_8, and_mask}
use Rattle.std.proofs.lemmas.Bool.{and_parts, eqb-true, lt-leb}
use Rattle.std.proofs.lemmas.List.{get_or-map, length-map, get_or_append_left, get_or-replicate, length-replicate}
use Rattle.std.proofs.lemmas.Simd.{Each1-from_get_or, length-zip2, get_or-zip2, swz_l, SwzOk}
use Rattle.std.proofs.lemmas.Simd.{SwzOk-from_Each1, length-swz_l, get_or-swz_l}
use lib.Lanes.{zip2, Each1}
use Rattle.aes.specs.Field.{times, sbox}
use Rattle.aes.specs.Code.Lanes.{HasLanes, IsPlace, entry, in_basis, from_basis, linear_sbox}
use Rattle.aes.specs.Code.Lanes.{both_at, first_at, second_at, u_at, t_at, by_inverse}
use Rattle.aes.proofs.Tables.{sbox_table}
use Rattle.aes.specs.declared.lanes.TheConstants.{TO_LOW, TO_HIGH, FROM_LOW, FROM_HIGH, PLAIN_BY_FIRST}
use Rattle.aes.specs.declared.lanes.TheConstants.{PLAIN_BY_SECOND, ONCE_BY_FIRST, ONCE_BY_SECOND}
use Rattle.aes.specs.declared.lanes.TheConstants.{TWICE_BY_FIRST, TWICE_BY_SECOND}
use Rattle.aes.proofs.Tested.{all_below, all_below_at}
use Rattle.aes.proofs.Tables.{sbox_at}
use Rattle.aes.proofs.Sums.{xor_exchange}
use Rattle.aes.proofs.Multiples.{double, double_is}
use Rattle.aes.proofs.Steps.{sbox_small}

-- a vector whose lanes hold f holds g too, if f and g agree on all lanes
pub same_lanes : {n : ℕ} {f g : ℕ → ℕ} (v : List ℕ) → HasLanes n v f → ((k : ℕ) → k < n → f k ≡ g k) → HasLanes n v g
same_lanes v h same = record { long = h.long; each = λ k l. h.each k l ∙ same k l }

-- each lane of a vector of bytes is below 256
pub lane_fits : (v : List ℕ) (i : ℕ) → Each1 (Fits w8) v → get_or v i 0 < 256
lane_fits [] i h = omega arith
lane_fits (x ∷ xs) zero h = h.0.fits
lane_fits (x ∷ xs) (suc i) h = lane_fits xs i h.1

-- an operator on two vectors acts on each pair of lanes
pub lanes-zip2 : (n : ℕ) (g : ℕ → ℕ → ℕ) (x y : List ℕ) → length x ≡ n → length y ≡ n
    → HasLanes n (zip2 g x y) (λ k. g (get_or x k 0) (get_or y k 0))
lanes-zip2 n g x y hx hy = record {
  long = length-zip2 g x y (hx ∙ sym hy) ∙ hx;
  each = λ k l. get_or-zip2 g x y k 0 0 0 (omega arith) (omega arith);
}

-- an operator on a vector and one number in each lane acts on each lane with that number
pub lanes-splat : (n : ℕ) (g : ℕ → ℕ → ℕ) (x : List ℕ) (m : ℕ) → length x ≡ n
    → HasLanes n (zip2 g x (replicate n m)) (λ k. g (get_or x k 0) m)
lanes-splat n g x m hx =
    same_lanes (zip2 g x (replicate n m)) (lanes-zip2 n g x (replicate n m) hx (length-replicate n m))
    (λ k l. ap (g (get_or x k 0)) (get_or-replicate {A = ℕ} n k m 0 l))

-- ---- look-ups
-- whether a look-up may have this index
abbrev is_place : ℕ → Bool
is_place j = leb 128 j || ltb j 16

-- a test that is true holds as a fact
true_T : (b : Bool) → b ≡ true → T b
true_T b e = subst T (sym e) tt

-- a look-up is allowed if each lane of a vector is a place
pub places_ok : (b n : ℕ) → n ≡ b * 16 → (at : List ℕ) → length at ≡ n
    → ((k : ℕ) → k < n → IsPlace (get_or at k 0)) → SwzOk w8 16 n 0 at
places_ok b n blocks at long ok =
    SwzOk-from_Each1 w8 16 b n 0 at blocks (omega arith)
    (Each1-from_get_or (λ j. T (leb 128 j || ltb j 16)) at 0
    (λ i h. true_T (leb 128 (get_or at i 0) || ltb (get_or at i 0) 16) (ok i (omega arith))))

-- the entry that a look-up finds in the copy of the table in lane k's block is the entry of the table
entry_at : (q n : ℕ) → n ≡ q * 16 → (t copies : List ℕ) (k j : ℕ) → HasLanes n copies (λ i. get_or t (i % 16) 0)
    → k < n → (b : Bool) → leb 128 j ≡ b → (b || ltb j 16) ≡ true
    → cond b 0 (get_or copies (16 * ((0 + k) / 16) + j) 0) ≡ cond b 0 (get_or t j 0)
entry_at q n blocks t copies k j h l true e ok = refl
entry_at q n blocks t copies k j h l false e ok =
    let small : j < 16 = ltb-true j 16 ok in
    let place : 16 * ((0 + k) / 16) + j < n = omega arith in
    let same : (16 * ((0 + k) / 16) + j) % 16 ≡ j = omega arith in
    h.each (16 * ((0 + k) / 16) + j) place ∙ ap (λ i. get_or t i 0) same

-- a look-up in copies of a table gives each lane the entry of the table
pub looked_up : (q n : ℕ) → n ≡ q * 16 → (t copies at : List ℕ) → HasLanes n copies (λ i. get_or t (i % 16) 0)
    → length at ≡ n → ((k : ℕ) → k < n → IsPlace (get_or at k 0))
    → HasLanes n (swz_l w8 16 copies 0 at) (λ k. entry t (get_or at k 0))
looked_up q n blocks t copies at h long ok = record {
  long = length-swz_l w8 16 copies 0 at ∙ long;
  each = λ k l.
      get_or-swz_l w8 16 copies 0 at k (omega arith)
      ∙ entry_at q n blocks t copies k (get_or at k 0) h l (leb 128 (get_or at k 0)) refl (ok k l);
}

-- masking a byte with 15 gives its low nibble
pub low_is : (x : ℕ) → bit_and x 15 ≡ x % 16
low_is x = and_mask x 4

-- ---- places of rows
-- a vector whose lanes are picked at places has the lanes of those places, if the places are tested
pub picked : (x ps : List ℕ) (f : ℕ → ℕ) (n m : ℕ) → length x ≡ n → length ps ≡ m
    → all_below (λ i. (get_or ps i 0 == f i) && ltb (get_or ps i 0) n) m ≡ true
    → HasLanes m (map (λ p. get_or (x ++ x) p 0) ps) (λ k. get_or x (f k) 0)
picked x ps f n m hx hp test = record {
  long = length-map ps (λ p. get_or (x ++ x) p 0) ∙ hp;
  each = λ k l.
      let both = and_parts (get_or ps k 0 == f k) (ltb (get_or ps k 0) n)
      (all_below_at (λ i. (get_or ps i 0 == f i) && ltb (get_or ps i 0) n) m k test l) in
      let small : get_or ps k 0 < n = ltb-true (get_or ps k 0) n both.1 in
      get_or-map (λ p. get_or (x ++ x) p 0) ps k 0 0 (omega arith)
      ∙ get_or_append_left x x 0 (get_or ps k 0) (omega arith)
      ∙ ap (λ p. get_or x p 0) (eqb-true (get_or ps k 0) (f k) both.0);
}

-- ---- lanes that are computed from lanes
-- if the lanes of v are F of the lanes of a, and those are g, the lanes of v are F of g
pub via : {n : ℕ} (F g : ℕ → ℕ) (v a : List ℕ) → HasLanes n v (λ k. F (get_or a k 0)) → HasLanes n a g
    → HasLanes n v (λ k. F (g k))
via F g v a h e = same_lanes v h (λ k l. ap F (e.each k l))

-- if the lanes of v are F of the lanes of a and b, and those are g and h, the lanes of v are F of g and h
pub via_two : {n : ℕ} (F : ℕ → ℕ → ℕ) (g h : ℕ → ℕ) (v a b : List ℕ)
    → HasLanes n v (λ k. F (get_or a k 0) (get_or b k 0)) → HasLanes n a g → HasLanes n b h
    → HasLanes n v (λ k. F (g k) (h k))
via_two F g h v a b e x y = same_lanes v e (λ k l. ap₂ F (x.each k l) (y.each k l))

-- ---- the basis
-- the low table takes sums to sums, tested at each pair of nibbles
low_linear : all_below (λ k.
    get_or TO_LOW (bit_xor (k / 16) (k % 16)) 0 == bit_xor (get_or TO_LOW (k / 16) 0)
    (get_or TO_LOW (k % 16) 0)) 256 ≡ true
low_linear = refl

-- the high table takes sums to sums, tested at each pair of nibbles
high_linear : all_below (λ k.
    get_or TO_HIGH (bit_xor (k / 16) (k % 16)) 0 == bit_xor (get_or TO_HIGH (k / 16) 0)
    (get_or TO_HIGH (k % 16) 0)) 256 ≡ true
high_linear = refl

-- a table of nibbles that passes that test takes sums to sums
pub linear_at : (t : List ℕ) (a b : ℕ) → a < 16 → b < 16
    → all_below (λ k. get_or t (bit_xor (k / 16) (k % 16)) 0 == bit_xor (get_or t (k / 16) 0)
    (get_or t (k % 16) 0)) 256 ≡ true
    → get_or t (bit_xor a b) 0 ≡ bit_xor (get_or t a 0) (get_or t b 0)
linear_at t a b ha hb test =
    let k : ℕ = a * 16 + b in
    let first : k / 16 ≡ a = omega arith in
    let second : k % 16 ≡ b = omega arith in
    let at_k : get_or t (bit_xor (k / 16) (k % 16)) 0 ≡ bit_xor (get_or t (k / 16) 0) (get_or t (k % 16) 0) =
    eqb-true (get_or t (bit_xor (k / 16) (k % 16)) 0) (bit_xor (get_or t (k / 16) 0) (get_or t (k % 16) 0))
    (all_below_at (λ k. get_or t (bit_xor (k / 16) (k % 16)) 0 == bit_xor (get_or t (k / 16) 0)
    (get_or t (k % 16) 0)) 256 k test (omega arith)) in
    sym (ap₂ (λ (x y : ℕ). get_or t (bit_xor x y) 0) first second) ∙ at_k
    ∙ ap₂ (λ (x y : ℕ). bit_xor (get_or t x 0) (get_or t y 0)) first second

-- the coordinates in the basis of a sum are the sum of the coordinates
pub in_basis_xor : (x y : ℕ) → x < 256 → y < 256 → bit_xor (in_basis x) (in_basis y) ≡ in_basis (bit_xor x y)
unfolding in_basis
in_basis_xor x y hx hy =
    xor_exchange (get_or TO_LOW (x % 16) 0) (get_or TO_HIGH (x / 16) 0) (get_or TO_LOW (y % 16) 0)
    (get_or TO_HIGH (y / 16) 0)
    ∙ ap₂ bit_xor
    (sym (linear_at TO_LOW (x % 16) (y % 16) (omega arith) (omega arith) low_linear)
    ∙ ap (λ i. get_or TO_LOW i 0) (sym (xor_mod x y 4)))
    (sym (linear_at TO_HIGH (x / 16) (y / 16) (omega arith) (omega arith) high_linear)
    ∙ ap (λ i. get_or TO_HIGH i 0) (sym (xor_shr x y 4)))

-- the XOR of the two look-ups of the nibbles of a byte is its coordinates in the basis
pub basis_entries : (x : ℕ) → x < 256 → bit_xor (entry TO_LOW (x % 16)) (entry TO_HIGH (x / 16)) ≡ in_basis x
unfolding in_basis
basis_entries x h =
    let low : x % 16 < 128 = omega arith in
    let high : x / 16 < 128 = omega arith in
    ap₂ bit_xor (ap (λ b. cond b 0 (get_or TO_LOW (x % 16) 0)) (lt-leb 128 (x % 16) low))
    (ap (λ b. cond b 0 (get_or TO_HIGH (x / 16) 0)) (lt-leb 128 (x / 16) high))

-- the way back from the basis, tested at each byte
back_computed : all_below
    (λ x. bit_xor (entry FROM_LOW (in_basis x % 16)) (entry FROM_HIGH (in_basis x / 16)) == x) 256 ≡ true
unfolding in_basis
back_computed = refl

-- the XOR of the two look-ups of the nibbles of a byte's coordinates is the byte
pub back_entries : (x : ℕ) → x < 256
    → bit_xor (entry FROM_LOW (in_basis x % 16)) (entry FROM_HIGH (in_basis x / 16)) ≡ x
back_entries x h =
    eqb-true (bit_xor (entry FROM_LOW (in_basis x % 16)) (entry FROM_HIGH (in_basis x / 16))) x
    (all_below_at (λ x. bit_xor (entry FROM_LOW (in_basis x % 16)) (entry FROM_HIGH (in_basis x / 16)) == x) 256 x
    back_computed h)

-- the byte with the coordinates of a byte, tested at each byte
from_computed : all_below (λ x. from_basis (in_basis x) == x) 256 ≡ true
unfolding in_basis from_basis
from_computed = refl

-- the byte with the coordinates of a byte is the byte
pub from_in_basis : (x : ℕ) → x < 256 → from_basis (in_basis x) ≡ x
from_in_basis x h =
    eqb-true (from_basis (in_basis x)) x (all_below_at (λ x. from_basis (in_basis x) == x) 256 x from_computed h)

-- ---- the S-box, from the nibbles of a byte in the basis
-- all five are places of a look-up, tested at each byte
places_computed : all_below
    (λ y. is_place (both_at y) &&
    (is_place (first_at y) && (is_place (second_at y) && (is_place (u_at y) && is_place (t_at y))))) 256
    ≡ true
unfolding u_at t_at
places_computed = refl

-- all five are places of a look-up, at any byte
places_at : (y : ℕ) → y < 256
    → IsPlace (both_at y) × IsPlace (first_at y) × IsPlace (second_at y) × IsPlace (u_at y)
    × IsPlace (t_at y)
places_at y h =
    let a = and_parts (is_place (both_at y))
    (is_place (first_at y) && (is_place (second_at y) && (is_place (u_at y) && is_place (t_at y))))
    (all_below_at (λ y. is_place (both_at y) &&
    (is_place (first_at y) && (is_place (second_at y) && (is_place (u_at y) && is_place (t_at y))))) 256 y
    places_computed h) in
    let b = and_parts (is_place (first_at y))
    (is_place (second_at y) && (is_place (u_at y) && is_place (t_at y))) a.1 in
    let c = and_parts (is_place (second_at y)) (is_place (u_at y) && is_place (t_at y)) b.1 in
    let d = and_parts (is_place (u_at y)) (is_place (t_at y)) c.1 in
    (a.0, b.0, c.0, d.0, d.1)

-- lanes that hold g of each byte are places of a look-up, if g maps each byte to such a place
pub shown : {n : ℕ} (g : ℕ → ℕ) (v x : List ℕ) → ((k : ℕ) → get_or x k 0 < 256)
    → HasLanes n v (λ k. g (get_or x k 0)) → ((y : ℕ) → y < 256 → IsPlace (g y)) → (k : ℕ) → k < n
    → IsPlace (get_or v k 0)
shown g v x fits h ok k l = subst IsPlace (sym (h.each k l)) (ok (get_or x k 0) (fits k))

-- the low nibble of a byte is a place of a look-up
pub low_place : (y : ℕ) → y < 256 → IsPlace (y % 16)
low_place y h = rw (lt-ltb (y % 16) 16 (omega arith), lt-leb 128 (y % 16) (omega arith)) refl

-- the high nibble of a byte is a place of a look-up
pub high_place : (y : ℕ) → y < 256 → IsPlace (y / 16)
high_place y h = rw (lt-ltb (y / 16) 16 (omega arith), lt-leb 128 (y / 16) (omega arith)) refl

-- `both_at` of a byte is a place of a look-up
pub both_place : (y : ℕ) → y < 256 → IsPlace (both_at y)
both_place y h = (places_at y h).0

-- `first_at` of a byte is a place of a look-up
pub first_place : (y : ℕ) → y < 256 → IsPlace (first_at y)
first_place y h = (places_at y h).1

-- `second_at` of a byte is a place of a look-up
pub second_place : (y : ℕ) → y < 256 → IsPlace (second_at y)
second_place y h = (places_at y h).2

-- `u_at` of a byte is a place of a look-up
pub u_place : (y : ℕ) → y < 256 → IsPlace (u_at y)
u_place y h = (places_at y h).3

-- `t_at` of a byte is a place of a look-up
pub t_place : (y : ℕ) → y < 256 → IsPlace (t_at y)
t_place y h = (places_at y h).4

-- the PLAIN tables give the S-box without its constant, tested at each byte
plain_computed : all_below
    (λ b. by_inverse PLAIN_BY_FIRST PLAIN_BY_SECOND (in_basis b) == bit_xor (get_or sbox_table b 0) 0x63) 256 ≡ true
unfolding in_basis u_at t_at
plain_computed = refl

-- the ONCE tables give the S-box without its constant, in the basis, tested at each byte
once_computed : all_below
    (λ b. by_inverse ONCE_BY_FIRST ONCE_BY_SECOND (in_basis b) == in_basis (bit_xor (get_or sbox_table b 0) 0x63))
    256 ≡ true
unfolding in_basis u_at t_at
once_computed = refl

-- the TWICE tables give twice the S-box without its constant, in the basis, tested at each byte
twice_computed : all_below
    (λ b. by_inverse TWICE_BY_FIRST TWICE_BY_SECOND (in_basis b) == in_basis
    (double (bit_xor (get_or sbox_table b 0) 0x63))) 256 ≡ true
unfolding in_basis u_at t_at
twice_computed = refl

-- the S-box without its constant is a byte
pub linear_small : (x : ℕ) → x < 256 → linear_sbox x < 256
unfolding linear_sbox
linear_small x h = xor_of_8 (sbox x) 0x63 (sbox_small x h) (omega arith)

-- a function that is tested against h of the S-box table's entry is h of `linear_sbox`
by_sbox : (g h : ℕ → ℕ) (b : ℕ) → b < 256
    → all_below (λ b. g b == h (bit_xor (get_or sbox_table b 0) 0x63)) 256 ≡ true → g b ≡ h (linear_sbox b)
unfolding linear_sbox
by_sbox g h b l test =
    eqb-true (g b) (h (bit_xor (get_or sbox_table b 0) 0x63))
    (all_below_at (λ b. g b == h (bit_xor (get_or sbox_table b 0) 0x63)) 256 b test l)
    ∙ ap (λ (s : ℕ). h (bit_xor s 0x63)) (sbox_at b l)

-- if the lanes are two tables' entries at bytes in the basis, which were tested against h, they are h of `linear_sbox`
substituted : {n : ℕ} (p q v x : List ℕ) (s h : ℕ → ℕ) → HasLanes n v (λ k. by_inverse p q (get_or x k 0))
    → ((k : ℕ) → k < n → s k < 256) → HasLanes n x (λ k. in_basis (s k))
    → all_below (λ b. by_inverse p q (in_basis b) == h (bit_xor (get_or sbox_table b 0) 0x63)) 256 ≡ true
    → HasLanes n v (λ k. h (linear_sbox (s k)))
substituted p q v x s h made small held test =
    same_lanes v made (λ k l. ap (by_inverse p q) (held.each k l)
    ∙ by_sbox (λ b. by_inverse p q (in_basis b)) h (s k) (small k l) test)

-- the lanes of the PLAIN tables' entries are the S-box without its constant
pub plain_lanes : {n : ℕ} (v x : List ℕ) (s : ℕ → ℕ)
    → HasLanes n v (λ k. by_inverse PLAIN_BY_FIRST PLAIN_BY_SECOND (get_or x k 0))
    → ((k : ℕ) → k < n → s k < 256) → HasLanes n x (λ k. in_basis (s k)) → HasLanes n v (λ k. linear_sbox (s k))
plain_lanes v x s made small held =
    substituted PLAIN_BY_FIRST PLAIN_BY_SECOND v x s (λ y. y) made small held plain_computed

-- the lanes of the ONCE tables' entries are the S-box without its constant, in the basis
pub once_lanes : {n : ℕ} (v x : List ℕ) (s : ℕ → ℕ)
    → HasLanes n v (λ k. by_inverse ONCE_BY_FIRST ONCE_BY_SECOND (get_or x k 0)) → ((k : ℕ) → k < n → s k < 256)
    → HasLanes n x (λ k. in_basis (s k)) → HasLanes n v (λ k. in_basis (linear_sbox (s k)))
once_lanes v x s made small held =
    substituted ONCE_BY_FIRST ONCE_BY_SECOND v x s in_basis made small held once_computed

-- the lanes of the TWICE tables' entries are twice the S-box without its constant, in the basis
pub twice_lanes : {n : ℕ} (v x : List ℕ) (s : ℕ → ℕ)
    → HasLanes n v (λ k. by_inverse TWICE_BY_FIRST TWICE_BY_SECOND (get_or x k 0))
    → ((k : ℕ) → k < n → s k < 256) → HasLanes n x (λ k. in_basis (s k))
    → HasLanes n v (λ k. in_basis (times 2 (linear_sbox (s k))))
twice_lanes v x s made small held =
    same_lanes v
    (substituted TWICE_BY_FIRST TWICE_BY_SECOND v x s (λ y. in_basis (double y)) made small held
    twice_computed)
    (λ k l. ap in_basis (sym (double_is (linear_sbox (s k)) (linear_small (s k) (small k l)))))
