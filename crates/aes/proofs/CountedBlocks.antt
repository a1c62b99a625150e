-- Sixteen counter blocks, one after the other, in planes of bits.
use Rattle.std.proofs.Common.{◌≡◌, ℕ, zero, suc, ◌+◌, ◌-◌, ◌*◌, ◌/◌, ◌%◌, ◌^◌, ◌<◌, ◌≤◌}
use Rattle.std.proofs.Common.{Bool, true, false, cond, ◌==◌, List, []}
use Rattle.std.proofs.Common.{◌∷◌, ◌++◌, map, get_or, length, replicate, slice_set, min, bit_and, bit_xor, refl, sym, ap}
use Rattle.std.proofs.Common.{ap₂, ◌∙◌, arith, inl, inr}
use Rattle.std.specs.Int.{bit_at}
use Rattle.std.specs.Int.Bits.{xor_zero_l, xor_zero_r, xor_assoc, xor_self}
use Rattle.std.proofs.lemmas.Bool.{eqb-true, cases_lt}
use Rattle.std.proofs.lemmas.Nat.Bits.{bit_at-zero, bit_at-lt, bit_at_ones, bit_at_above}
use Rattle.std.proofs.lemmas.List.{get_or-replicate, get_or_append_left, get_or-append-add}
use Rattle.std.proofs.lemmas.Simd.{length-zip2}
use lib.Lanes.{zip2}
use Rattle.octets.specs.Bytes.{IsBlock}
use Rattle.aes.specs.Code.Nibbles.{CountsInNibble}
use Rattle.aes.specs.Code.Planes.{HoldsBits, spot}
use Rattle.aes.specs.Code.Wraps.{WrapsAround}
use Rattle.aes.proofs.BitPlanes.{each_of}
use Rattle.aes.proofs.Circuit.{eight, at, at_product, at_none, none}
use Rattle.aes.proofs.Exchanges.{down, low_bit}
use Rattle.aes.proofs.Tested.{all_below, all_below_at, eight_cases}

-- two bytes of a number, repeated over the lanes of each half, have bit q of the number at the place of block q
pub by_blocks_bit : (n l k : ℕ) → l < 32 → k < 8
    → bit_at (get_or (replicate 16 (n % 256) ++ replicate 16 (n / 256 % 256)) l 0) k ≡ bit_at n (l / 16 * 8 + k)
by_blocks_bit n l k hl hk =
    let low : List ℕ = replicate 16 (n % 256) in
    let high : List ℕ = replicate 16 (n / 256 % 256) in
    elim (cases_lt l 16) [
      | inl h ↦
          let place : k ≡ l / 16 * 8 + k = omega arith in
          ap (λ (v : ℕ). bit_at v k) (get_or_append_left low high 0 l h ∙ get_or-replicate {A = ℕ} 16 l (n % 256) 0 h)
          ∙ low_bit n k hk ∙ ap (bit_at n) place
      | inr h ↦
          let there : l ≡ 16 + (l - 16) = omega arith in
          let place : k + 8 ≡ l / 16 * 8 + k = omega arith in
          ap (λ (v : ℕ). bit_at v k)
          (ap (λ (p : ℕ). get_or (low ++ high) p 0) there ∙ get_or-append-add low high (l - 16) 0
          ∙ get_or-replicate {A = ℕ} 16 (l - 16) (n / 256 % 256) 0 (omega arith))
          ∙ low_bit (n / 256) k hk ∙ down n 8 k ∙ ap (bit_at n) place
    ]

-- ---- bytes that a mask selects
times_bit : (b x j : ℕ) → b < 2 → min (bit_at x j) b ≡ bit_at (b * x) j
times_bit zero x j h =
    let none : min (bit_at x j) 0 ≡ 0 = omega arith in
    let zero_is : 0 ≡ 0 * x = omega arith in
    none ∙ sym (bit_at-zero j) ∙ ap (λ (v : ℕ). bit_at v j) zero_is
times_bit (suc zero) x j h =
    let whole : min (bit_at x j) 1 ≡ bit_at x j = omega (arith, bit_at-lt x j) in
    let one_is : x ≡ 1 * x = omega arith in
    whole ∙ ap (λ (v : ℕ). bit_at v j) one_is
times_bit (suc (suc b)) x j h = absurd (omega arith)

pub marked_planes : (p : List (List ℕ)) (mask : List ℕ) (g : ℕ → ℕ → ℕ) → length mask ≡ 32 → HoldsBits p g
    → HoldsBits (map (λ v. zip2 bit_and v mask) (eight p)) (λ l k. bit_at (get_or mask l 0) k * g l k)
marked_planes p mask g long h = record {
  count = refl;
  long = λ j hj. ap length (each_of (λ v. zip2 bit_and v mask) p j hj)
      ∙ length-zip2 bit_and (get_or p j []) mask (h.long j hj ∙ sym long) ∙ h.long j hj;
  each = λ j l k hj hl hk.
      ap (at l k) (each_of (λ v. zip2 bit_and v mask) p j hj)
      ∙ at_product l k (get_or p j []) mask (h.long j hj) long hl
      ∙ ap (λ b. min b (at l k mask)) (h.each j l k hj hl hk)
      ∙ times_bit (at l k mask) (g l k) j (bit_at-lt (get_or mask l 0) k);
}

-- ---- a byte of each block
-- a plane whose lanes are 0, except those of the byte at place p, which have all bits
abbrev pub lit_lanes : ℕ → List ℕ
lit_lanes p = slice_set (slice_set (replicate 32 0) (p % 4 * 4 + p / 4) 255) (16 + (p % 4 * 4 + p / 4)) 255

lanes_computed : all_below
    (λ p. all_below (λ l. get_or (lit_lanes p) l 0 == cond (spot l == p) 255 0) 32) 16 ≡ true
lanes_computed = refl

pub lanes_at : (p l : ℕ) → p < 16 → l < 32 → get_or (lit_lanes p) l 0 ≡ cond (spot l == p) 255 0
lanes_at p l hp hl =
    eqb-true (get_or (lit_lanes p) l 0) (cond (spot l == p) 255 0)
    (all_below_at (λ l. get_or (lit_lanes p) l 0 == cond (spot l == p) 255 0) 32 l
    (all_below_at (λ p. all_below (λ l. get_or (lit_lanes p) l 0 == cond (spot l == p) 255 0) 32) 16 p lanes_computed hp) hl)

-- a bit under a mask of all bits or none is the bit or 0
chosen_bit : (b : Bool) (x j k : ℕ) → k < 8 → min (bit_at x j) (bit_at (cond b 255 0) k) ≡ bit_at (cond b x 0) j
chosen_bit true x j k h =
    let one : bit_at 255 k ≡ 1 = bit_at_ones 8 k h in
    let whole : min (bit_at x j) 1 ≡ bit_at x j = omega (arith, bit_at-lt x j) in
    ap (min (bit_at x j)) one ∙ whole
chosen_bit false x j k h =
    let none : min (bit_at x j) 0 ≡ 0 = omega arith in
    ap (min (bit_at x j)) (bit_at-zero k) ∙ none ∙ sym (bit_at-zero j)

-- a number below 16, or 0, has no bit from place 4 on
no_bit : (b : Bool) (x j : ℕ) → 4 ≤ j → bit_at (cond b (x % 16) 0) j ≡ 0
no_bit true x j h = bit_at_above (x % 16) 4 j (omega arith) h
no_bit false x j h = bit_at-zero j

-- whether bit q of c, shifted down by f, is bit j of f + q modulo 16, for all f and q below 16
abbrev pub turns : ℕ → ℕ → Bool
turns c j = all_below (λ f. all_below (λ q. bit_at (c / 2 ^ f) q == bit_at ((f + q) % 16) j) 16) 16

-- if c passes that test, one plane holds bit j of f + q modulo 16 in the byte at `place` of each block q, and 0 elsewhere
number_plane : (c j : ℕ) → turns c j ≡ true → (b m : List ℕ) (f place : ℕ) → length b ≡ 32 → length m ≡ 32 → f < 16
    → ((l k : ℕ) → l < 32 → k < 8 → bit_at (get_or b l 0) k ≡ bit_at (c / 2 ^ f) (l / 16 * 8 + k))
    → ((l : ℕ) → l < 32 → get_or m l 0 ≡ cond (spot l == place) 255 0) → (l k : ℕ) → l < 32 → k < 8
    → at l k (zip2 bit_and b m) ≡ bit_at (cond (spot l == place) ((f + (l / 16 * 8 + k)) % 16) 0) j
number_plane c j test b m f place hb hm hf bits lanes l k hl hk =
    let q : ℕ = l / 16 * 8 + k in
    let hq : q < 16 = omega arith in
    at_product l k b m hb hm hl
    ∙ ap₂ min (bits l k hl hk
    ∙ eqb-true (bit_at (c / 2 ^ f) q) (bit_at ((f + q) % 16) j)
    (all_below_at (λ q. bit_at (c / 2 ^ f) q == bit_at ((f + q) % 16) j) 16 q
    (all_below_at (λ f. all_below (λ q. bit_at (c / 2 ^ f) q == bit_at ((f + q) % 16) j) 16) 16 f test hf) hq))
    (ap (λ (v : ℕ). bit_at v k) (lanes l hl))
    ∙ chosen_bit (spot l == place) ((f + q) % 16) j k hk

-- four such planes, and empty ones, hold f + q modulo 16 in the byte at `place` of each block q, and 0 elsewhere
pub number_planes : (a b c d m : List ℕ) (f place : ℕ) → length a ≡ 32 → length b ≡ 32 → length c ≡ 32 → length d ≡ 32
    → length m ≡ 32 → f < 16
    → ((l k : ℕ) → l < 32 → k < 8 → bit_at (get_or a l 0) k ≡ bit_at (0xaaaaaaaa / 2 ^ f) (l / 16 * 8 + k))
    → ((l k : ℕ) → l < 32 → k < 8 → bit_at (get_or b l 0) k ≡ bit_at (0xcccccccc / 2 ^ f) (l / 16 * 8 + k))
    → ((l k : ℕ) → l < 32 → k < 8 → bit_at (get_or c l 0) k ≡ bit_at (0xf0f0f0f0 / 2 ^ f) (l / 16 * 8 + k))
    → ((l k : ℕ) → l < 32 → k < 8 → bit_at (get_or d l 0) k ≡ bit_at (0xff00ff00 / 2 ^ f) (l / 16 * 8 + k))
    → ((l : ℕ) → l < 32 → get_or m l 0 ≡ cond (spot l == place) 255 0)
    → HoldsBits (zip2 bit_and a m ∷ zip2 bit_and b m ∷ zip2 bit_and c m ∷ zip2 bit_and d m ∷ none 32 ∷ none 32 ∷ none 32 ∷ none 32 ∷ [])
    (λ l k. cond (spot l == place) ((f + (l / 16 * 8 + k)) % 16) 0)
number_planes a b c d m f place la lb lc ld lm hf ba bb bc bd lanes =
    let ps : List (List ℕ) = zip2 bit_and a m ∷ zip2 bit_and b m ∷ zip2 bit_and c m ∷ zip2 bit_and d m ∷ none 32 ∷ none 32
    ∷ none 32 ∷ none 32 ∷ [] in
    let g : ℕ → ℕ → ℕ = λ (l k : ℕ). cond (spot l == place) ((f + (l / 16 * 8 + k)) % 16) 0 in
    let empty : (l k j : ℕ) → l < 32 → 4 ≤ j → at l k (none 32) ≡ bit_at (g l k) j =
    λ l k j hl hj. at_none 32 l k hl ∙ sym (no_bit (spot l == place) (f + (l / 16 * 8 + k)) j hj) in
    record {
      count = refl;
      long = eight_cases (λ j. length (get_or ps j []) ≡ 32)
          (length-zip2 bit_and a m (la ∙ sym lm) ∙ la) (length-zip2 bit_and b m (lb ∙ sym lm) ∙ lb)
          (length-zip2 bit_and c m (lc ∙ sym lm) ∙ lc) (length-zip2 bit_and d m (ld ∙ sym lm) ∙ ld) refl refl refl refl;
      each = λ j l k hj hl hk.
          eight_cases (λ j. at l k (get_or ps j []) ≡ bit_at (g l k) j)
          (number_plane 0xaaaaaaaa 0 refl a m f place la lm hf ba lanes l k hl hk)
          (number_plane 0xcccccccc 1 refl b m f place lb lm hf bb lanes l k hl hk)
          (number_plane 0xf0f0f0f0 2 refl c m f place lc lm hf bc lanes l k hl hk)
          (number_plane 0xff00ff00 3 refl d m f place ld lm hf bd lanes l k hl hk)
          (empty l k 4 hl (omega arith)) (empty l k 5 hl (omega arith)) (empty l k 6 hl (omega arith))
          (empty l k 7 hl (omega arith)) j hj;
    }

-- ---- one byte
passed_computed : all_below (λ f. all_below (λ q. bit_at (0xffff0000 / 2 ^ f) q == (f + q) / 16) 16) 16 ≡ true
passed_computed = refl

pub passed_bit : (f q : ℕ) → f < 16 → q < 16 → bit_at (0xffff0000 / 2 ^ f) q ≡ (f + q) / 16
passed_bit f q hf hq =
    eqb-true (bit_at (0xffff0000 / 2 ^ f) q) ((f + q) / 16)
    (all_below_at (λ q. bit_at (0xffff0000 / 2 ^ f) q == (f + q) / 16) 16 q
    (all_below_at (λ f. all_below (λ q. bit_at (0xffff0000 / 2 ^ f) q == (f + q) / 16) 16) 16 f passed_computed hf) hq)

-- a is XORed with d times the difference of a and b: it stays a if d is 0, and becomes b if d is 1
changed : (d a b : ℕ) (x y : List ℕ) (i : ℕ) → d < 2 → a ≡ get_or x i 0 → b ≡ get_or y i 0
    → bit_xor a (d * bit_xor a b) ≡ get_or (cond (d == 0) x y) i 0
changed zero a b x y i h ea eb =
    let none : 0 * bit_xor a b ≡ 0 = omega arith in
    ap (bit_xor a) none ∙ xor_zero_r a ∙ ea
changed (suc zero) a b x y i h ea eb =
    let whole : 1 * bit_xor a b ≡ bit_xor a b = omega arith in
    ap (bit_xor a) whole ∙ sym (xor_assoc a a b) ∙ ap (λ (v : ℕ). bit_xor v b) (xor_self a) ∙ xor_zero_l b ∙ eb
changed (suc (suc d)) a b x y i h ea eb = absurd (omega arith)

-- a byte of block q is that of x, or, if f + q is 16 or more, that of y, each XORed with n
pub counted_byte : (x y : List ℕ) (f q a b m n i : ℕ) → f < 16 → q < 16 → a ≡ get_or x i 0 → b ≡ get_or y i 0
    → m ≡ bit_at (0xffff0000 / 2 ^ f) q
    → bit_xor (bit_xor a (m * bit_xor a b)) n ≡ bit_xor (get_or (cond ((f + q) / 16 == 0) x y) i 0) n
counted_byte x y f q a b m n i hf hq ea eb em =
    let few : (f + q) / 16 < 2 = omega arith in
    ap (λ (v : ℕ). bit_xor v n) (ap (λ (v : ℕ). bit_xor a (v * bit_xor a b)) (em ∙ passed_bit f q hf hq)
    ∙ changed ((f + q) / 16) a b x y i few ea eb)

-- ---- blocks
-- s steps after a block whose nibble is 0, the byte at `place` is XORed with s, and the other bytes are those of the block
one_block : (up : List ℕ → ℕ → List ℕ) (place : ℕ) → WrapsAround up → CountsInNibble up place → (b : List ℕ) → IsBlock b
    → (w s j i : ℕ) → (get_or b place 0 + w) % 16 ≡ 0 → (w + s) % 2 ^ 32 ≡ j % 2 ^ 32 → s < 16 → i < 16
    → get_or (up b (j % 2 ^ 32)) i 0 ≡ bit_xor (get_or (up b w) i 0) (cond (i == place) s 0)
one_block up place wraps counts b block w s j i whole same hs hi =
    ap (λ x. get_or x i 0) (ap (up b) (sym same) ∙ wraps b (w + s))
    ∙ counts.near b w s i block (counts.nibble b w block ∙ whole) hs hi

-- each of sixteen blocks has the bytes of x, whose nibble is 0, or of y, which is 16 steps after x, with the nibble XORed in
pub sixteen_blocks : (up : List ℕ → ℕ → List ℕ) (place : ℕ) → WrapsAround up → CountsInNibble up place
    → (b x y : List ℕ) → IsBlock b → (begun low whole : ℕ)
    → low ≡ (get_or b place 0 + begun) % 2 ^ 32 % 16 → (whole + low) % 2 ^ 32 ≡ begun % 2 ^ 32
    → x ≡ up b whole → y ≡ up b ((whole + 16) % 2 ^ 32) → (q d i : ℕ) → q < 16 → i < 16 → d ≡ (low + q) / 16
    → get_or (up b ((begun + q) % 2 ^ 32)) i 0
    ≡ bit_xor (get_or (cond (d == 0) x y) i 0) (cond (i == place) ((low + q) % 16) 0)
sixteen_blocks up place wraps counts b x y block begun low whole lows wholes ex ey q zero i hq hi hd =
    let s : (low + q) % 16 ≡ low + q = omega arith in
    let multiple : (get_or b place 0 + whole) % 16 ≡ 0 = omega arith in
    one_block up place wraps counts b block whole (low + q) (begun + q) i multiple (omega arith) (omega arith) hi
    ∙ ap₂ (λ (v : List ℕ) (n : ℕ). bit_xor (get_or v i 0) (cond (i == place) n 0)) (sym ex) (sym s)
sixteen_blocks up place wraps counts b x y block begun low whole lows wholes ex ey q (suc zero) i hq hi hd =
    let s : (low + q) % 16 ≡ low + q - 16 = omega arith in
    let multiple : (get_or b place 0 + (whole + 16) % 2 ^ 32) % 16 ≡ 0 = omega arith in
    one_block up place wraps counts b block ((whole + 16) % 2 ^ 32) (low + q - 16) (begun + q) i multiple (omega arith)
    (omega arith) hi
    ∙ ap₂ (λ (v : List ℕ) (n : ℕ). bit_xor (get_or v i 0) (cond (i == place) n 0)) (sym ey) (sym s)
sixteen_blocks up place wraps counts b x y block begun low whole lows wholes ex ey q (suc (suc d)) i hq hi hd =
    absurd (omega arith)
