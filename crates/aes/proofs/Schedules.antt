-- The key schedule, four words at once.
use Rattle.std.proofs.Common.{◌≡◌, ℕ, zero, suc, ◌+◌, ◌-◌, ◌*◌, ◌/◌, ◌%◌, ◌<◌, ◌≤◌, true, ◌==◌, List, []}
use Rattle.std.proofs.Common.{◌++◌, map, get_or, length, replicate, drop, inl, inr, refl, sym, ap, ap₂, subst}
use Rattle.std.proofs.Common.{◌∙◌, arith, bit_xor, zero-add}
use Rattle.std.specs.Int.Bits.{xor_assoc, xor_zero_r}
use Rattle.std.proofs.lemmas.Bool.{cases_lt, eqb-true}
use Rattle.std.proofs.lemmas.List.{get_or-map, get_or-take, get_or-drop, length-take-le, length-drop}
use Rattle.std.proofs.lemmas.List.{get_or_append_left, get_or-append-add, get_or-replicate, length-replicate}
use Rattle.std.proofs.lemmas.List.FromFn.{get_or-map-range_with_len}
use Rattle.std.proofs.lemmas.Simd.{length-zip2, get_or-zip2}
use lib.Lanes.{zip2}
use Rattle.aes.specs.Field.{sbox}
use Rattle.aes.specs.Schedule.{schedule, key_words, round_count, xor_word, sub_word, rot_word, rcon, temp, word}
use Rattle.aes.specs.Code.Lanes.{in_basis, byte_from, HoldsWords, HasSums, Follows, AreBytes}
use Rattle.aes.proofs.Tested.{all_below, all_below_at}
use Rattle.aes.proofs.Words.{meets_recurrence, temp_first, temp_fourth, temp_other}
use Rattle.aes.proofs.FourBlocks.{in_basis_xor}

-- a predicate that holds in each of four words holds of each of sixteen bytes
four_groups : (P : ℕ → Type 0) → ((r : ℕ) → r < 4 → P r) → ((r : ℕ) → r < 4 → P (4 + r))
    → ((r : ℕ) → r < 4 → P (8 + r)) → ((r : ℕ) → r < 4 → P (12 + r)) → (i : ℕ) → i < 16 → P i
four_groups P a b c d i l =
    elim (cases_lt i 4) [
      | inl g ↦ a i g
      | inr g ↦ elim (cases_lt i 8) [
        | inl h ↦ let e : 4 + (i - 4) ≡ i = omega arith in subst P e (b (i - 4) (omega arith))
        | inr h ↦ elim (cases_lt i 12) [
          | inl k ↦ let e : 8 + (i - 8) ≡ i = omega arith in subst P e (c (i - 8) (omega arith))
          | inr k ↦ let e : 12 + (i - 12) ≡ i = omega arith in subst P e (d (i - 12) (omega arith))
        ]
      ]
    ]

-- ---- sums of words
-- lanes of a vector after so many zero lanes
pub moved : (x ps : List ℕ) (n i : ℕ) → length x ≡ 16 → length ps ≡ 16 → i < 16 - n
    → all_below (λ i. get_or ps (n + i) 0 == 16 + i) (16 - n) ≡ true
    → get_or (map (λ p. get_or (replicate 16 0 ++ x) p 0) ps) (n + i) 0 ≡ get_or x i 0
moved x ps n i hx hp l test =
    get_or-map (λ p. get_or (replicate 16 0 ++ x) p 0) ps (n + i) 0 0 (omega arith)
    ∙ ap (λ (p : ℕ). get_or (replicate 16 0 ++ x) p 0) (eqb-true (get_or ps (n + i) 0) (16 + i)
    (all_below_at (λ i. get_or ps (n + i) 0 == 16 + i) (16 - n) i test l))
    ∙ get_or-append-add (replicate 16 0) x i 0

-- the zero lanes before them
pub none : (x ps : List ℕ) (n i : ℕ) → length ps ≡ 16 → n ≤ 16 → i < n → all_below (λ i. get_or ps i 0 == i) n ≡ true
    → get_or (map (λ p. get_or (replicate 16 0 ++ x) p 0) ps) i 0 ≡ 0
none x ps n i hp within l test =
    get_or-map (λ p. get_or (replicate 16 0 ++ x) p 0) ps i 0 0 (omega arith)
    ∙ ap (λ (p : ℕ). get_or (replicate 16 0 ++ x) p 0) (eqb-true (get_or ps i 0) i
    (all_below_at (λ i. get_or ps i 0 == i) n i test l))
    ∙ get_or_append_left (replicate 16 0) x 0 i (omega (arith, length-replicate {A = ℕ} 16 0))
    ∙ get_or-replicate {A = ℕ} 16 i 0 0 (omega arith)

-- eight lanes that are picked from the first of two vectors, from lane a on
pub from_first : (x y ps : List ℕ) (a i : ℕ) → length x ≡ 16 → length ps ≡ 16 → a + 8 ≤ 16 → i < 8
    → all_below (λ i. get_or ps i 0 == a + i) 8 ≡ true
    → get_or (map (λ p. get_or (x ++ y) p 0) ps) i 0 ≡ get_or x (a + i) 0
from_first x y ps a i hx hp room l test =
    get_or-map (λ p. get_or (x ++ y) p 0) ps i 0 0 (omega arith)
    ∙ ap (λ (p : ℕ). get_or (x ++ y) p 0) (eqb-true (get_or ps i 0) (a + i)
    (all_below_at (λ i. get_or ps i 0 == a + i) 8 i test l))
    ∙ get_or_append_left x y 0 (a + i) (omega arith)

-- the last eight of sixteen lanes that are the first of the second vector
pub from_second : (x y ps : List ℕ) (i : ℕ) → length x ≡ 16 → length ps ≡ 16 → i < 8
    → all_below (λ i. get_or ps (8 + i) 0 == 16 + i) 8 ≡ true
    → get_or (map (λ p. get_or (x ++ y) p 0) ps) (8 + i) 0 ≡ get_or y i 0
from_second x y ps i hx hp l test =
    get_or-map (λ p. get_or (x ++ y) p 0) ps (8 + i) 0 0 (omega arith)
    ∙ ap (λ (p : ℕ). get_or (x ++ y) p 0) (eqb-true (get_or ps (8 + i) 0) (16 + i)
    (all_below_at (λ i. get_or ps (8 + i) 0 == 16 + i) 8 i test l))
    ∙ ap (λ (p : ℕ). get_or (x ++ y) (p + i) 0) (sym hx) ∙ get_or-append-add x y i 0

-- a lane of the sum of two vectors
pub sum_lane : (x y : List ℕ) (i : ℕ) → length x ≡ 16 → length y ≡ 16 → i < 16
    → get_or (zip2 bit_xor x y) i 0 ≡ bit_xor (get_or x i 0) (get_or y i 0)
sum_lane x y i hx hy l = get_or-zip2 bit_xor x y i 0 0 0 (omega arith) (omega arith)

-- the length of the sum of two vectors
pub sum_long : (x y : List ℕ) → length x ≡ 16 → length y ≡ 16 → length (zip2 bit_xor x y) ≡ 16
sum_long x y hx hy = length-zip2 bit_xor x y (hx ∙ sym hy) ∙ hx

-- adding the words one place back and then two places back makes the sums
pub sums_made : (x one pairs two v : List ℕ)
    → ((r : ℕ) → r < 4 → get_or one r 0 ≡ 0) → ((i : ℕ) → i < 12 → get_or one (4 + i) 0 ≡ get_or x i 0)
    → ((i : ℕ) → i < 8 → get_or two i 0 ≡ 0) → ((i : ℕ) → i < 8 → get_or two (8 + i) 0 ≡ get_or pairs i 0)
    → ((i : ℕ) → i < 16 → get_or pairs i 0 ≡ bit_xor (get_or x i 0) (get_or one i 0))
    → ((i : ℕ) → i < 16 → get_or v i 0 ≡ bit_xor (get_or pairs i 0) (get_or two i 0)) → HasSums v x
sums_made x one pairs two v one_none one_is two_none two_is pairs_is v_is =
    let first : (r : ℕ) → r < 4 → get_or pairs r 0 ≡ get_or x r 0 = λ r l.
    pairs_is r (omega arith) ∙ ap (bit_xor (get_or x r 0)) (one_none r l) ∙ xor_zero_r (get_or x r 0) in
    let later : (i : ℕ) → i < 12 → get_or pairs (4 + i) 0 ≡ bit_xor (get_or x (4 + i) 0) (get_or x i 0) = λ i l.
    pairs_is (4 + i) (omega arith) ∙ ap (bit_xor (get_or x (4 + i) 0)) (one_is i l) in
    record {
      first = λ r l. v_is r (omega arith) ∙ ap (bit_xor (get_or pairs r 0)) (two_none r (omega arith))
          ∙ xor_zero_r (get_or pairs r 0) ∙ first r l;
      second = λ r l. v_is (4 + r) (omega arith) ∙ ap (bit_xor (get_or pairs (4 + r) 0)) (two_none (4 + r) (omega arith))
          ∙ xor_zero_r (get_or pairs (4 + r) 0) ∙ later r (omega arith);
      third = λ r l.
          let e : 4 + (4 + r) ≡ 8 + r = omega arith in
          v_is (8 + r) (omega arith)
          ∙ ap₂ bit_xor (sym (ap (λ (i : ℕ). get_or pairs i 0) e) ∙ later (4 + r) (omega arith)
          ∙ ap (λ (i : ℕ). bit_xor (get_or x i 0) (get_or x (4 + r) 0)) e)
          (two_is r (omega arith) ∙ first r l);
      fourth = λ r l.
          let e : 4 + (8 + r) ≡ 12 + r = omega arith in
          let h : 8 + (4 + r) ≡ 12 + r = omega arith in
          v_is (12 + r) (omega arith)
          ∙ ap₂ bit_xor (sym (ap (λ (i : ℕ). get_or pairs i 0) e) ∙ later (8 + r) (omega arith)
          ∙ ap (λ (i : ℕ). bit_xor (get_or x i 0) (get_or x (8 + r) 0)) e)
          (sym (ap (λ (i : ℕ). get_or two i 0) h) ∙ two_is (4 + r) (omega arith) ∙ later r (omega arith));
    }

-- the sums of words plus the same bytes in each word are the words that follow
pub followed : (v s back temp : List ℕ) (count : ℕ) (ws : List (List ℕ)) (m n : ℕ) (t : ℕ → ℕ) → HasSums s back
    → ((i : ℕ) → i < 16 → get_or v i 0 ≡ bit_xor (get_or s i 0) (get_or temp i 0)) → count ≤ 4
    → AreBytes ws → ((r : ℕ) → t r < 256) → HoldsWords count back ws m
    → ((i : ℕ) → i < 16 → get_or temp i 0 ≡ in_basis (t (i % 4))) → Follows count ws m n t → HoldsWords count v ws n
followed v s back temp count ws m n t sums v_is short bytes small held temp_is follows =
    let W : ℕ → ℕ = λ i. byte_from ws m i in
    let V : ℕ → ℕ = λ i. byte_from ws n i in
    let b : ℕ → ℕ = λ i. get_or back i 0 in
    let W_small : (i : ℕ) → W i < 256 = λ i. bytes (m + i / 4) (i % 4) in
    let V_small : (i : ℕ) → V i < 256 = λ i. bytes (n + i / 4) (i % 4) in
    let x : ℕ → ℕ = λ r. in_basis (t r) in
    let lane : (i r : ℕ) → i < 16 → i % 4 ≡ r → get_or v i 0 ≡ bit_xor (get_or s i 0) (x r) = λ i r l e.
    v_is i l ∙ ap (bit_xor (get_or s i 0)) (temp_is i l ∙ ap x e) in
    let start : (r : ℕ) → r < 4 → 0 < count → bit_xor (b r) (x r) ≡ in_basis (V r) = λ r l some.
    ap (λ (y : ℕ). bit_xor y (x r)) (held.each r (omega arith)) ∙ in_basis_xor (W r) (t r) (W_small r) (small r)
    ∙ ap in_basis (sym (follows.first r l)) in
    let next : (i k : ℕ) → 4 + i ≡ k → k < 4 * count → bit_xor (b k) (in_basis (V i)) ≡ in_basis (V k) = λ i k e l.
    ap (λ (y : ℕ). bit_xor y (in_basis (V i))) (held.each k l) ∙ in_basis_xor (W k) (V i) (W_small k) (V_small i)
    ∙ ap in_basis (sym (subst (λ (k : ℕ). V k ≡ bit_xor (W k) (V i)) e (follows.rest i (omega arith)))) in
    record {
      each = λ i l. four_groups (λ i. i < 4 * count → get_or v i 0 ≡ in_basis (V i))
          (λ r h w. let own : r % 4 ≡ r = omega arith in
          lane r r (omega arith) own ∙ ap (λ (y : ℕ). bit_xor y (x r)) (sums.first r h) ∙ start r h (omega arith))
          (λ r h w. let own : (4 + r) % 4 ≡ r = omega arith in
          lane (4 + r) r (omega arith) own ∙ ap (λ (y : ℕ). bit_xor y (x r)) (sums.second r h)
          ∙ xor_assoc (b (4 + r)) (b r) (x r) ∙ ap (bit_xor (b (4 + r))) (start r h (omega arith))
          ∙ next r (4 + r) refl w)
          (λ r h w. let own : (8 + r) % 4 ≡ r = omega arith in
          let e : 4 + (4 + r) ≡ 8 + r = omega arith in
          lane (8 + r) r (omega arith) own ∙ ap (λ (y : ℕ). bit_xor y (x r)) (sums.third r h)
          ∙ xor_assoc (bit_xor (b (8 + r)) (b (4 + r))) (b r) (x r)
          ∙ ap (bit_xor (bit_xor (b (8 + r)) (b (4 + r)))) (start r h (omega arith))
          ∙ xor_assoc (b (8 + r)) (b (4 + r)) (in_basis (V r))
          ∙ ap (bit_xor (b (8 + r))) (next r (4 + r) refl (omega arith)) ∙ next (4 + r) (8 + r) e w)
          (λ r h w. let own : (12 + r) % 4 ≡ r = omega arith in
          let e : 4 + (4 + r) ≡ 8 + r = omega arith in
          let d : 4 + (8 + r) ≡ 12 + r = omega arith in
          lane (12 + r) r (omega arith) own ∙ ap (λ (y : ℕ). bit_xor y (x r)) (sums.fourth r h)
          ∙ xor_assoc (bit_xor (b (12 + r)) (b (8 + r))) (bit_xor (b (4 + r)) (b r)) (x r)
          ∙ ap (bit_xor (bit_xor (b (12 + r)) (b (8 + r))))
          (xor_assoc (b (4 + r)) (b r) (x r) ∙ ap (bit_xor (b (4 + r))) (start r h (omega arith))
          ∙ next r (4 + r) refl (omega arith))
          ∙ xor_assoc (b (12 + r)) (b (8 + r)) (in_basis (V (4 + r)))
          ∙ ap (bit_xor (b (12 + r))) (next (4 + r) (8 + r) e (omega arith)) ∙ next (8 + r) (12 + r) d w)
          i (omega arith) l;
    }

-- ---- the recurrence, byte by byte
-- a byte of the sum of two words
xor_byte : (v w : List ℕ) (r : ℕ) → r < 4 → get_or (xor_word v w) r 0 ≡ bit_xor (get_or v r 0) (get_or w r 0)
unfolding xor_word
xor_byte v w r l = get_or-map-range_with_len (λ i. bit_xor (get_or v i 0) (get_or w i 0)) 0 4 r r 0 l (zero-add r)

-- a byte of a word from word Nk on
recurs : (key : List ℕ) (nk k j r : ℕ) → key_words key ≡ nk → 0 < nk → nk + j ≡ k → k < 4 * (round_count key + 1) → r < 4
    → get_or (word key k) r 0 ≡ bit_xor (get_or (word key j) r 0) (get_or (temp nk k (word key (k - 1))) r 0)
recurs key nk k j r size some e within l =
    let back : k - key_words key ≡ j = omega arith in
    ap (λ w. get_or w r 0) ((meets_recurrence key k (omega arith) within).1 (omega arith))
    ∙ xor_byte (word key (k - key_words key)) (temp (key_words key) k (word key (k - 1))) r l
    ∙ ap₂ (λ (i n : ℕ). bit_xor (get_or (word key i) r 0) (get_or (temp n k (word key (k - 1))) r 0)) back size

-- word m + j, byte r, by the place of the byte
pub byte_place : (ws : List (List ℕ)) (m j r : ℕ) → r < 4 → byte_from ws m (4 * j + r) ≡ get_or (get_or ws (m + j) []) r 0
byte_place ws m j r l =
    let e : (4 * j + r) / 4 ≡ j = omega arith in
    let d : (4 * j + r) % 4 ≡ r = omega arith in
    ap₂ (λ (a b : ℕ). get_or (get_or ws (m + a) []) b 0) e d

-- `count` words follow the words Nk places back, if no word after the first is one of those for which temp has an S-box
pub follows : (key : List ℕ) (nk m n count : ℕ) (t : ℕ → ℕ) → key_words key ≡ nk → 0 < nk → nk + m ≡ n
    → n + count ≤ 4 * (round_count key + 1) → 0 < count
    → ((j : ℕ) → 0 < j → j < count → ((n + j) % nk ≡ 0 → ⊥) × (nk ≡ 8 → (n + j) % 8 ≡ 4 → ⊥))
    → ((r : ℕ) → r < 4 → get_or (temp nk n (word key (n - 1))) r 0 ≡ t r)
    → Follows count (schedule key) m n t
follows key nk m n count t size some e within one others first =
    let ws = schedule key in
    record {
      first = λ r l.
          let quarter : r / 4 ≡ 0 = omega arith in
          let own : r % 4 ≡ r = omega arith in
          let n_is : n + r / 4 ≡ n = omega arith in
          let m_is : m + r / 4 ≡ m = omega arith in
          ap₂ (λ (a b : ℕ). get_or (get_or ws a []) b 0) n_is own
          ∙ recurs key nk n m r size some e (omega arith) l
          ∙ ap₂ bit_xor (sym (ap₂ (λ (a b : ℕ). get_or (get_or ws a []) b 0) m_is own)) (first r l);
      rest = λ i l.
          let j : ℕ = i / 4 in
          let r : ℕ = i % 4 in
          let n_is : n + (4 + i) / 4 ≡ n + (1 + j) = omega arith in
          let m_is : m + (4 + i) / 4 ≡ m + (1 + j) = omega arith in
          let own : (4 + i) % 4 ≡ r = omega arith in
          let back : nk + (m + (1 + j)) ≡ n + (1 + j) = omega arith in
          let before : n + (1 + j) - 1 ≡ n + j = omega arith in
          let other = others (1 + j) (omega arith) (omega arith) in
          ap₂ (λ (a b : ℕ). get_or (get_or ws a []) b 0) n_is own
          ∙ recurs key nk (n + (1 + j)) (m + (1 + j)) r size some back (omega arith) (omega arith)
          ∙ ap₂ bit_xor (sym (ap₂ (λ (a b : ℕ). get_or (get_or ws a []) b 0) m_is own))
          (ap (λ w. get_or w r 0) (sym (temp_other nk (n + (1 + j)) (word key (n + (1 + j) - 1)) other.0 other.1))
          ∙ ap (λ (k : ℕ). get_or (word key k) r 0) before);
    }

-- a byte of SubWord of RotWord
sub_rot : (w : List ℕ) (r : ℕ) → r < 4 → get_or (sub_word (rot_word w)) r 0 ≡ sbox (get_or w ((r + 1) % 4) 0)
sub_rot w zero l = refl
sub_rot w (suc zero) l = refl
sub_rot w (suc (suc zero)) l = refl
sub_rot w (suc (suc (suc zero))) l = refl
sub_rot w (suc (suc (suc (suc r)))) l = absurd (omega arith)

-- a byte of temp at a multiple of Nk
pub temp_rotated : (nk n r : ℕ) (w : List ℕ) → n % nk ≡ 0 → r < 4
    → get_or (temp nk n w) r 0 ≡ bit_xor (sbox (get_or w ((r + 1) % 4) 0)) (get_or (rcon (n / nk)) r 0)
temp_rotated nk n r w first l =
    ap (λ v. get_or v r 0) (sym (temp_first nk n w first)) ∙ xor_byte (sub_word (rot_word w)) (rcon (n / nk)) r l
    ∙ ap (λ (x : ℕ). bit_xor x (get_or (rcon (n / nk)) r 0)) (sub_rot w r l)

-- a byte of temp at the fourth of eight words
pub temp_halfway : (n r : ℕ) (w : List ℕ) → n % 8 ≡ 4 → length w ≡ 4 → r < 4
    → get_or (temp 8 n w) r 0 ≡ bit_xor (sbox (get_or w r 0)) 0
temp_halfway n r w fourth long l =
    ap (λ v. get_or v r 0) (sym (temp_fourth 8 n w (λ e. omega (arith, e, fourth)) refl fourth))
    ∙ get_or-map sbox w r 0 0 (omega arith) ∙ sym (xor_zero_r (sbox (get_or w r 0)))

-- a byte of temp at the fourth of six words
pub temp_plain : (n r : ℕ) (w : List ℕ) → n % 6 ≡ 4 → get_or (temp 6 n w) r 0 ≡ get_or w r 0
temp_plain n r w fourth =
    ap (λ v. get_or v r 0) (sym (temp_other 6 n w (λ e. omega (arith, e, fourth)) (λ e f. omega (arith, e))))

-- the words of a schedule have four bytes
xor_long : (v w : List ℕ) → length (xor_word v w) ≡ 4
unfolding xor_word
xor_long v w = refl

pub word_long : (key : List ℕ) (k : ℕ) → 0 < key_words key → 4 * key_words key ≤ length key → k < 4 * (round_count key + 1)
    → length (word key k) ≡ 4
word_long key k some long within =
    elim (cases_lt k (key_words key)) [
      | inl l ↦ ap length ((meets_recurrence key k some within).0 l)
          ∙ length-take-le 4 (drop (4 * k) key) (omega (arith, length-drop (4 * k) key))
      | inr l ↦ ap length ((meets_recurrence key k some within).1 l)
          ∙ xor_long (word key (k - key_words key)) (temp (key_words key) k (word key (k - 1)))
    ]

-- a byte of a word of the key is a byte of the key
pub start_byte : (key : List ℕ) (k r : ℕ) → 0 < key_words key → k < key_words key → r < 4
    → get_or (word key k) r 0 ≡ get_or key (4 * k + r) 0
start_byte key k r some within l =
    ap (λ w. get_or w r 0) ((meets_recurrence key k some (omega arith)).0 within)
    ∙ get_or-take 4 (drop (4 * k) key) r 0 l ∙ get_or-drop (4 * k) key r 0
