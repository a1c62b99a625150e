-- Blocks that are read out of planes.
use Rattle.std.proofs.Common.{◌≡◌, ℕ, ◌+◌, ◌*◌, ◌/◌, ◌%◌, ◌<◌, true, ◌&&◌, ◌==◌, ltb, List, []}
use Rattle.std.proofs.Common.{◌∷◌, ◌++◌, map, get_or, length, refl, ap, ap₂, ◌∙◌, arith, inl, inr}
use Rattle.std.specs.Int.{bit_at}
use Rattle.std.proofs.lemmas.Nat.Bits.{same_from_bits_below}
use Rattle.std.proofs.lemmas.Bool.{and_parts, eqb-true, cases_lt}
use Rattle.std.proofs.lemmas.List.{get_or-map, get_or_append_left, get_or-append-add, length-map}
use lib.Lanes.{Each1}
use mir.Val.{Fits}
use mir.Syntax.{w8}
use Rattle.octets.specs.Bytes.{IsBlock}
use Rattle.aes.specs.Code.Lanes.{HoldsBlocks}
use Rattle.aes.specs.Code.Planes.{HoldsBits, HasByteBits}
use Rattle.aes.proofs.Tested.{all_below, all_below_at}
use Rattle.aes.proofs.FourBlocks.{lane_fits, same_lanes}

-- a vector whose lanes are picked from two vectors at places has the lanes of those places
pub picked_two : (x y ps : List ℕ) (f : ℕ → ℕ) (n m l : ℕ) → length x ≡ n → length y ≡ n → length ps ≡ m → l < m
    → all_below (λ i. (get_or ps i 0 == f i) && ltb (get_or ps i 0) (n + n)) m ≡ true
    → get_or (map (λ p. get_or (x ++ y) p 0) ps) l 0 ≡ get_or (x ++ y) (f l) 0
picked_two x y ps f n m l hx hy hp h test =
    let both = and_parts (get_or ps l 0 == f l) (ltb (get_or ps l 0) (n + n))
    (all_below_at (λ i. (get_or ps i 0 == f i) && ltb (get_or ps i 0) (n + n)) m l test h) in
    get_or-map (λ p. get_or (x ++ y) p 0) ps l 0 0 (omega arith)
    ∙ ap (λ p. get_or (x ++ y) p 0) (eqb-true (get_or ps l 0) (f l) both.0)

-- a vector that has the bits of a byte in each lane has the bytes
by_bits : (v : List ℕ) (f : ℕ → List ℕ) (q l : ℕ) → Each1 (Fits w8) v → ((q : ℕ) → IsBlock (f q)) → HasByteBits v f q
    → l < 32 → get_or v l 0 ≡ get_or (f (l / 16 * 8 + q)) (l % 16) 0
by_bits v f q l fits blocks h hl =
    same_from_bits_below 8 (get_or v l 0) (get_or (f (l / 16 * 8 + q)) (l % 16) 0) (lane_fits v l fits)
    ((blocks (l / 16 * 8 + q)).bytes (l % 16)) (λ k hk. h l k hl hk)

-- after the planes are transposed, plane q has the bytes of blocks q and 8 + q
pub stored_low : (p r : List (List ℕ)) (f : ℕ → List ℕ) (q : ℕ) → q < 4
    → HoldsBits r (λ l k. get_or (get_or p k []) l 0) → HoldsBits p (λ l k. get_or (f (l / 16 * 8 + k)) (l % 16) 0)
    → HasByteBits (get_or r q []) f q
stored_low p r f q hq made held = λ l k hl hk.
    made.each q l k (omega arith) hl hk ∙ held.each k l q hk hl (omega arith)

pub stored_high : (p r : List (List ℕ)) (f : ℕ → List ℕ) (q : ℕ) → q < 4
    → HoldsBits r (λ l k. get_or (get_or p k []) l 0) → HoldsBits p (λ l k. get_or (f (l / 16 * 8 + k)) (l % 16) 0)
    → HasByteBits (get_or r (4 + q) []) (λ q. f (4 + q)) q
stored_high p r f q hq made held = λ l k hl hk.
    let e : l / 16 * 8 + (4 + q) ≡ 4 + (l / 16 * 8 + q) = omega arith in
    made.each (4 + q) l k (omega arith) hl hk ∙ held.each k l (4 + q) hk hl (omega arith)
    ∙ ap (λ (a : ℕ). bit_at (get_or (f a) (l % 16) 0) k) e

pub fours_same : (v : List ℕ) (f : ℕ → List ℕ) → HoldsBlocks 64 v (λ q. f (4 + (8 + q))) → HoldsBlocks 64 v (λ q. f (12 + q))
fours_same v f h = same_lanes v h (λ i l.
    let e : 4 + (8 + i / 16) ≡ 12 + i / 16 = omega arith in ap (λ (a : ℕ). get_or (f a) (i % 16) 0) e)

-- the places of the first halves of two planes
abbrev low_places : List ℕ
low_places =
    0 ∷ 1 ∷ 2 ∷ 3 ∷ 4 ∷ 5 ∷ 6 ∷ 7 ∷ 8 ∷ 9 ∷ 10 ∷ 11 ∷ 12 ∷ 13 ∷ 14 ∷ 15 ∷ 32 ∷ 33 ∷ 34 ∷ 35 ∷ 36 ∷ 37 ∷
    38 ∷ 39 ∷ 40 ∷ 41 ∷ 42 ∷ 43 ∷ 44 ∷ 45 ∷ 46 ∷ 47 ∷ []

-- the places of the second halves of two planes
abbrev high_places : List ℕ
high_places =
    16 ∷ 17 ∷ 18 ∷ 19 ∷ 20 ∷ 21 ∷ 22 ∷ 23 ∷ 24 ∷ 25 ∷ 26 ∷ 27 ∷ 28 ∷ 29 ∷ 30 ∷ 31 ∷ 48 ∷ 49 ∷ 50 ∷ 51 ∷
    52 ∷ 53 ∷ 54 ∷ 55 ∷ 56 ∷ 57 ∷ 58 ∷ 59 ∷ 60 ∷ 61 ∷ 62 ∷ 63 ∷ []

-- the places of all lanes of two planes
abbrev all_places : List ℕ
all_places =
    0 ∷ 1 ∷ 2 ∷ 3 ∷ 4 ∷ 5 ∷ 6 ∷ 7 ∷ 8 ∷ 9 ∷ 10 ∷ 11 ∷ 12 ∷ 13 ∷ 14 ∷ 15 ∷ 16 ∷ 17 ∷ 18 ∷ 19 ∷ 20 ∷ 21 ∷
    22 ∷ 23 ∷ 24 ∷ 25 ∷ 26 ∷ 27 ∷ 28 ∷ 29 ∷ 30 ∷ 31 ∷ 32 ∷ 33 ∷ 34 ∷ 35 ∷ 36 ∷ 37 ∷ 38 ∷ 39 ∷ 40 ∷ 41 ∷
    42 ∷ 43 ∷ 44 ∷ 45 ∷ 46 ∷ 47 ∷ 48 ∷ 49 ∷ 50 ∷ 51 ∷ 52 ∷ 53 ∷ 54 ∷ 55 ∷ 56 ∷ 57 ∷ 58 ∷ 59 ∷ 60 ∷ 61 ∷
    62 ∷ 63 ∷ []

-- picking the halves h of two planes gives those lanes of both
half_lane : (ps : List ℕ) (h : ℕ) → h < 2 → length ps ≡ 32
    → all_below (λ i. (get_or ps i 0 == i / 16 * 32 + (16 * h + i % 16)) && ltb (get_or ps i 0) (32 + 32)) 32 ≡ true
    → (a b : List ℕ) (j : ℕ) → length a ≡ 32 → length b ≡ 32 → j < 16
    → (get_or (map (λ p. get_or (a ++ b) p 0) ps) j 0 ≡ get_or a (16 * h + j) 0)
    × (get_or (map (λ p. get_or (a ++ b) p 0) ps) (16 + j) 0 ≡ get_or b (16 * h + j) 0)
half_lane ps h hh long test a b j ha hb hj =
    let low : j / 16 * 32 + (16 * h + j % 16) ≡ 16 * h + j = omega arith in
    let high : (16 + j) / 16 * 32 + (16 * h + (16 + j) % 16) ≡ length a + (16 * h + j) = omega arith in (
      picked_two a b ps (λ i. i / 16 * 32 + (16 * h + i % 16)) 32 32 j ha hb long (omega arith) test
          ∙ ap (λ p. get_or (a ++ b) p 0) low ∙ get_or_append_left a b 0 (16 * h + j) (omega arith),
      picked_two a b ps (λ i. i / 16 * 32 + (16 * h + i % 16)) 32 32 (16 + j) ha hb long (omega arith) test
          ∙ ap (λ p. get_or (a ++ b) p 0) high ∙ get_or-append-add a b (16 * h + j) 0,
    )

-- a byte in half h of a plane is a byte of block 8h + q
quarter : (v : List ℕ) (f : ℕ → List ℕ) (q h j : ℕ) → Each1 (Fits w8) v → ((q : ℕ) → IsBlock (f q)) → HasByteBits v f q
    → h < 2 → j < 16 → get_or v (16 * h + j) 0 ≡ get_or (f (8 * h + q)) j 0
quarter v f q h j fits blocks bits hh hj =
    let block : (16 * h + j) / 16 * 8 + q ≡ 8 * h + q = omega arith in
    let byte : (16 * h + j) % 16 ≡ j = omega arith in
    by_bits v f q (16 * h + j) fits blocks bits (omega arith)
    ∙ ap₂ (λ (a b : ℕ). get_or (f a) b 0) block byte

-- `all_places` picks every lane, tested at each place
all_computed : all_below (λ i. (get_or all_places i 0 == i) && ltb (get_or all_places i 0) (32 + 32)) 64 ≡ true
all_computed = refl

low_computed : all_below
    (λ i. (get_or low_places i 0 == i / 16 * 32 + (16 * 0 + i % 16)) && ltb (get_or low_places i 0) (32 + 32)) 32 ≡ true
low_computed = refl

high_computed : all_below
    (λ i. (get_or high_places i 0 == i / 16 * 32 + (16 * 1 + i % 16)) && ltb (get_or high_places i 0) (32 + 32)) 32 ≡ true
high_computed = refl

-- the halves of four planes, one after the other
abbrev pub four_halves : List ℕ → List ℕ → List ℕ → List ℕ → List ℕ → List ℕ
four_halves ps a b c d =
    map (λ p. get_or (map (λ p. get_or (a ++ b) p 0) ps ++ map (λ p. get_or (c ++ d) p 0) ps) p 0) all_places

-- the halves h of four planes hold four blocks
four_hold : (ps : List ℕ) (h : ℕ) → h < 2 → length ps ≡ 32
    → all_below (λ i. (get_or ps i 0 == i / 16 * 32 + (16 * h + i % 16)) && ltb (get_or ps i 0) (32 + 32)) 32 ≡ true
    → (a b c d : List ℕ) → length a ≡ 32 → length b ≡ 32 → length c ≡ 32 → length d ≡ 32
    → Each1 (Fits w8) a → Each1 (Fits w8) b → Each1 (Fits w8) c → Each1 (Fits w8) d
    → (f : ℕ → List ℕ) → ((q : ℕ) → IsBlock (f q)) → HasByteBits a f 0 → HasByteBits b f 1 → HasByteBits c f 2
    → HasByteBits d f 3 → HoldsBlocks 64 (four_halves ps a b c d) (λ q. f (8 * h + q))
four_hold ps h hh long test a b c d la lb lc ld fa fb fc fd f blocks ba bb bc bd =
    let s : List ℕ = map (λ p. get_or (a ++ b) p 0) ps in
    let t : List ℕ = map (λ p. get_or (c ++ d) p 0) ps in
    let ls : length s ≡ 32 = length-map ps (λ p. get_or (a ++ b) p 0) ∙ long in
    let lt : length t ≡ 32 = length-map ps (λ p. get_or (c ++ d) p 0) ∙ long in
    record {
      long = refl;
      each = λ i l.
          let j : ℕ = i % 16 in
          let hj : j < 16 = omega arith in
          let low = half_lane ps h hh long test a b j la lb hj in
          let high = half_lane ps h hh long test c d j lc ld hj in
          picked_two s t all_places (λ i. i) 32 64 i ls lt refl l all_computed
          ∙ elim (cases_lt i 32) [
            | inl under ↦ get_or_append_left s t 0 i (omega arith)
                ∙ elim (cases_lt i 16) [
                  | inl first ↦
                      let e : i ≡ j = omega arith in
                      let q : 0 ≡ i / 16 = omega arith in
                      ap (λ p. get_or s p 0) e ∙ low.0 ∙ quarter a f 0 h j fa blocks ba hh hj
                      ∙ ap (λ (q : ℕ). get_or (f (8 * h + q)) j 0) q
                  | inr second ↦
                      let e : i ≡ 16 + j = omega arith in
                      let q : 1 ≡ i / 16 = omega arith in
                      ap (λ p. get_or s p 0) e ∙ low.1 ∙ quarter b f 1 h j fb blocks bb hh hj
                      ∙ ap (λ (q : ℕ). get_or (f (8 * h + q)) j 0) q
                ]
            | inr over ↦
                elim (cases_lt i 48) [
                  | inl third ↦
                      let e : i ≡ length s + j = omega arith in
                      let q : 2 ≡ i / 16 = omega arith in
                      ap (λ p. get_or (s ++ t) p 0) e ∙ get_or-append-add s t j 0 ∙ high.0
                      ∙ quarter c f 2 h j fc blocks bc hh hj ∙ ap (λ (q : ℕ). get_or (f (8 * h + q)) j 0) q
                  | inr fourth ↦
                      let e : i ≡ length s + (16 + j) = omega arith in
                      let q : 3 ≡ i / 16 = omega arith in
                      ap (λ p. get_or (s ++ t) p 0) e ∙ get_or-append-add s t (16 + j) 0 ∙ high.1
                      ∙ quarter d f 3 h j fd blocks bd hh hj ∙ ap (λ (q : ℕ). get_or (f (8 * h + q)) j 0) q
                ]
          ];
    }

pub first_halves : (a b c d : List ℕ) → length a ≡ 32 → length b ≡ 32 → length c ≡ 32 → length d ≡ 32
    → Each1 (Fits w8) a → Each1 (Fits w8) b → Each1 (Fits w8) c → Each1 (Fits w8) d
    → (f : ℕ → List ℕ) → ((q : ℕ) → IsBlock (f q)) → HasByteBits a f 0 → HasByteBits b f 1 → HasByteBits c f 2
    → HasByteBits d f 3 → HoldsBlocks 64 (four_halves low_places a b c d) f
first_halves a b c d la lb lc ld fa fb fc fd f blocks ba bb bc bd =
    same_lanes (four_halves low_places a b c d)
    (four_hold low_places 0 (omega arith) refl low_computed a b c d la lb lc ld fa fb fc fd f blocks ba bb bc bd)
    (λ i l. let e : 8 * 0 + i / 16 ≡ i / 16 = omega arith in ap (λ (q : ℕ). get_or (f q) (i % 16) 0) e)

pub second_halves : (a b c d : List ℕ) → length a ≡ 32 → length b ≡ 32 → length c ≡ 32 → length d ≡ 32
    → Each1 (Fits w8) a → Each1 (Fits w8) b → Each1 (Fits w8) c → Each1 (Fits w8) d
    → (f : ℕ → List ℕ) → ((q : ℕ) → IsBlock (f q)) → HasByteBits a f 0 → HasByteBits b f 1 → HasByteBits c f 2
    → HasByteBits d f 3 → HoldsBlocks 64 (four_halves high_places a b c d) (λ q. f (8 + q))
second_halves a b c d la lb lc ld fa fb fc fd f blocks ba bb bc bd =
    four_hold high_places 1 (omega arith) refl high_computed a b c d la lb lc ld fa fb fc fd f blocks ba bb bc bd
