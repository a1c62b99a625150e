-- The round keys that the schedule makes, one after another, and the round keys as the standard has them.
use Rattle.std.proofs.Common.{◌≡◌, ℕ, zero, suc, ◌+◌, ◌-◌, ◌*◌, ◌/◌, ◌%◌, ◌<◌, ◌≤◌, true, ◌==◌, List, [], ◌∷◌, set}
use Rattle.std.proofs.Common.{get_or, length, replicate, inl, inr, refl, sym, ap, ap₂, subst, ◌∙◌, arith, bit_xor}
use Rattle.std.specs.Int.Bits.{xor_assoc, xor_zero_r}
use Rattle.std.proofs.lemmas.Nat.{xor_of_8}
use Rattle.std.proofs.lemmas.Bool.{cases_eq, cases_lt, eqb-true}
use Rattle.std.proofs.lemmas.List.{ext_get_or, get_or-map, get_or-replicate, length-replicate, length-set}
use Rattle.std.proofs.lemmas.List.{get_or-set_same, get_or-set_other, length-map}
use Rattle.aes.specs.Field.{sbox}
use Rattle.aes.specs.Schedule.{schedule, key_words, round_count, rcon, temp, word}
use Rattle.aes.specs.Code.Columns.{column_of, columns_of, state_of}
use Rattle.aes.specs.Code.Lanes.{in_basis, linear_sbox, row_source, row_target, HasLanes, HoldsWords, Follows}
use Rattle.aes.specs.Code.Lanes.{AreBytes}
use Rattle.aes.specs.Code.Planes.{word_byte, masked_byte, spot}
use Rattle.aes.specs.Code.ReadyKeys.{ready_byte, KeepsReadyKeys}
use Rattle.aes.specs.declared.schedule.TheConstants.{ROUND_CONSTANTS}
use Rattle.aes.proofs.Tested.{all_below, all_below_at}
use Rattle.aes.proofs.Rows.{constants, rcon_is}
use Rattle.aes.proofs.Steps.{sbox_small, quad}
use Rattle.aes.proofs.Permutation.{words_are, rcon_is_word}
use Rattle.aes.proofs.FourBlocks.{in_basis_xor, linear_small}
use Rattle.aes.proofs.FourRounds.{lane_last, constant_in_basis}
use Rattle.aes.proofs.Expanded.{target_at}
use Rattle.aes.proofs.Schedules.{follows, temp_rotated, temp_halfway, temp_plain, word_long, start_byte, byte_place}

-- ---- the round keys before round key n
pub record Begun (keys : List (List ℕ)) (key : List ℕ) (n : ℕ) : Type 0 where
  pub long : length keys ≡ 15
  pub each_long : (k : ℕ) → k < 15 → length (get_or keys k []) ≡ 16
  pub first : (i : ℕ) → i < 16 → get_or (get_or keys 0 []) i 0 ≡ word_byte (schedule key) 0 i
  pub middle : (k i : ℕ) → 0 < k → k < n → i < 16
      → get_or (get_or keys k []) i 0 ≡ ready_byte (schedule key) k (row_source i)
  pub after : (k i : ℕ) → n ≤ k → k < 15 → i < 16 → get_or (get_or keys k []) i 0 ≡ 0

-- a list that is written among lists of sixteen has sixteen items if they all have
set_long : (keys : List (List ℕ)) (n k : ℕ) (v : List ℕ) → n < length keys → length v ≡ 16
    → length (get_or keys k []) ≡ 16 → length (get_or (set keys n v) k []) ≡ 16
set_long keys n k v h long before =
    elim (cases_eq k n) [
      | inl e ↦ ap (λ (i : ℕ). length (get_or (set keys n v) i [])) e ∙ ap length (get_or-set_same keys n v [] h) ∙ long
      | inr other ↦ ap length (get_or-set_other keys n k v [] other) ∙ before
    ]

-- fifteen lists of sixteen zeros, and the first round key
pub begun_first : (key v : List ℕ) → length v ≡ 16 → ((i : ℕ) → i < 16 → get_or v i 0 ≡ word_byte (schedule key) 0 i)
    → Begun (set (replicate 15 (replicate {A = ℕ} 16 0)) 0 v) key 1
begun_first key v long is =
    let none : List (List ℕ) = replicate 15 (replicate {A = ℕ} 16 0) in
    let fifteen : length none ≡ 15 = length-replicate 15 (replicate {A = ℕ} 16 0) in
    let row : (k : ℕ) → k < 15 → get_or none k [] ≡ replicate {A = ℕ} 16 0 = λ k h.
    get_or-replicate 15 k (replicate {A = ℕ} 16 0) [] h in
    record {
      long = length-set none 0 v ∙ fifteen;
      each_long = λ k h. set_long none 0 k v (omega arith) long
          (ap length (row k h) ∙ length-replicate {A = ℕ} 16 0);
      first = λ i l. ap (λ x. get_or x i 0) (get_or-set_same none 0 v [] (omega arith)) ∙ is i l;
      middle = λ k i g h l. absurd (omega arith);
      after = λ k i g h l.
          let other : k ≡ 0 → ⊥ = λ e. omega arith in
          ap (λ x. get_or x i 0) (get_or-set_other none 0 k v [] other ∙ row k h) ∙ get_or-replicate {A = ℕ} 16 i 0 0 l;
    }

-- one round key more
pub begun_more : (keys : List (List ℕ)) (key v : List ℕ) (n : ℕ) → Begun keys key n → 0 < n → n < 15 → length v ≡ 16
    → ((i : ℕ) → i < 16 → get_or v i 0 ≡ ready_byte (schedule key) n (row_source i)) → Begun (set keys n v) key (n + 1)
begun_more keys key v n b some within long is =
    let fifteen : length keys ≡ 15 = b.long in
    let zero_other : 0 ≡ n → ⊥ = λ e. omega arith in
    record {
      long = length-set keys n v ∙ b.long;
      each_long = λ k h. set_long keys n k v (omega arith) long (b.each_long k h);
      first = λ i l. ap (λ x. get_or x i 0) (get_or-set_other keys n 0 v [] zero_other) ∙ b.first i l;
      middle = λ k i g h l. elim (cases_eq k n) [
        | inl e ↦ rw e (ap (λ x. get_or x i 0) (get_or-set_same keys n v [] (omega arith)) ∙ is i l)
        | inr other ↦ ap (λ x. get_or x i 0) (get_or-set_other keys n k v [] other) ∙ b.middle k i g (omega arith) l
      ];
      after = λ k i g h l.
          let other : k ≡ n → ⊥ = λ e. omega arith in
          ap (λ x. get_or x i 0) (get_or-set_other keys n k v [] other) ∙ b.after k i (omega arith) h l;
    }

-- the last round key
pub begun_last : (keys : List (List ℕ)) (key v : List ℕ) (n : ℕ) → Begun keys key n → n ≡ round_count key → n < 15
    → length v ≡ 16 → ((i : ℕ) → i < 16 → get_or v i 0 ≡ masked_byte (schedule key) n i) → KeepsReadyKeys (set keys n v) key
begun_last keys key v n b e within long is =
    let fifteen : length keys ≡ 15 = b.long in
    let zero_other : 0 ≡ n → ⊥ = λ f. omega arith in
    record {
      long = length-set keys n v ∙ b.long;
      each_long = λ k h. set_long keys n k v (omega arith) long (b.each_long k h);
      first = λ i l. ap (λ x. get_or x i 0) (get_or-set_other keys n 0 v [] zero_other) ∙ b.first i l;
      middle = λ k i g h l.
          let other : k ≡ n → ⊥ = λ f. omega arith in
          ap (λ x. get_or x i 0) (get_or-set_other keys n k v [] other) ∙ b.middle k i g (omega arith) l;
      last = λ i l. subst (λ (m : ℕ). get_or (get_or (set keys n v) m []) i 0 ≡ masked_byte (schedule key) m i) e
          (ap (λ x. get_or x i 0) (get_or-set_same keys n v [] (omega arith)) ∙ is i l);
      after = λ k i g h l.
          let other : k ≡ n → ⊥ = λ f. omega arith in
          ap (λ x. get_or x i 0) (get_or-set_other keys n k v [] other) ∙ b.after k i (omega arith) h l;
    }

-- the round keys before another round key that is the same
pub begun_at : (keys : List (List ℕ)) (key : List ℕ) (m n : ℕ) → m ≡ n → Begun keys key m → Begun keys key n
begun_at keys key m n e b = subst (λ (k : ℕ). Begun keys key k) e b

-- ---- the round constants
-- the constant of the S-box in the basis, which stands for the round constant 0
pub no_constant : (i : ℕ) → i < 16 → get_or (replicate 16 0x7c) i 0 ≡ bit_xor (in_basis 0) 0x7c
unfolding in_basis
no_constant i l = get_or-replicate {A = ℕ} 16 i 0x7c 0 l

-- each round constant in the basis, in all words, plus the constant of the S-box, tested at each byte
round_computed : all_below (λ j. all_below (λ i. get_or (get_or ROUND_CONSTANTS j []) i 0
    == bit_xor (in_basis (get_or (get_or constants (j + 1) 0 ∷ 0 ∷ 0 ∷ 0 ∷ []) (i % 4) 0)) 0x7c) 16) 10 ≡ true
unfolding in_basis
round_computed = refl

pub round_constant : (j i : ℕ) → j < 10 → i < 16
    → get_or (get_or ROUND_CONSTANTS j []) i 0 ≡ bit_xor (in_basis (get_or (rcon (j + 1)) (i % 4) 0)) 0x7c
round_constant j i h l =
    eqb-true (get_or (get_or ROUND_CONSTANTS j []) i 0)
    (bit_xor (in_basis (get_or (get_or constants (j + 1) 0 ∷ 0 ∷ 0 ∷ 0 ∷ []) (i % 4) 0)) 0x7c)
    (all_below_at (λ i. get_or (get_or ROUND_CONSTANTS j []) i 0
    == bit_xor (in_basis (get_or (get_or constants (j + 1) 0 ∷ 0 ∷ 0 ∷ 0 ∷ []) (i % 4) 0)) 0x7c) 16 i
    (all_below_at (λ j. all_below (λ i. get_or (get_or ROUND_CONSTANTS j []) i 0
    == bit_xor (in_basis (get_or (get_or constants (j + 1) 0 ∷ 0 ∷ 0 ∷ 0 ∷ []) (i % 4) 0)) 0x7c) 16) 10 j
    round_computed h) l)
    ∙ ap (λ w. bit_xor (in_basis (get_or w (i % 4) 0)) 0x7c) (rcon_is (j + 1) (omega arith) (omega arith))

-- ---- words that follow
-- a key with so many words
pub record HasWords (key : List ℕ) (nk : ℕ) : Type 0 where
  pub words : key_words key ≡ nk
  pub long : length key ≡ 4 * nk
  pub bytes : AreBytes (schedule key)

pub has_words : (key : List ℕ) (nk : ℕ) → length key ≡ 4 * nk → ((i : ℕ) → get_or key i 0 < 256) → HasWords key nk
has_words key nk long small = record {
  words = omega arith;
  long = long;
  bytes = words_are key (4 * (round_count key + 1)) small;
}

-- the bytes of RotWord of word k
abbrev pub rotated : List ℕ → ℕ → ℕ → ℕ
rotated key k r = get_or (word key k) ((r + 1) % 4) 0

-- the bytes of SubWord of RotWord of word k, plus round constant j
abbrev pub rotated_temp : List ℕ → ℕ → ℕ → ℕ → ℕ
rotated_temp key k j r = bit_xor (sbox (rotated key k r)) (get_or (rcon j) r 0)

-- the bytes of SubWord of word k
abbrev pub halfway_temp : List ℕ → ℕ → ℕ → ℕ
halfway_temp key k r = bit_xor (sbox (get_or (word key k) r 0)) 0

pub rotated_small : (key : List ℕ) (nk k r : ℕ) → HasWords key nk → rotated key k r < 256
rotated_small key nk k r has = has.bytes k ((r + 1) % 4)

pub rotated_temp_small : (key : List ℕ) (nk k j r : ℕ) → HasWords key nk → rotated_temp key k j r < 256
rotated_temp_small key nk k j r has =
    xor_of_8 (sbox (rotated key k r)) (get_or (rcon j) r 0) (sbox_small (rotated key k r) (rotated_small key nk k r has))
    (rcon_is_word j r)

pub halfway_temp_small : (key : List ℕ) (nk k r : ℕ) → HasWords key nk → halfway_temp key k r < 256
halfway_temp_small key nk k r has =
    xor_of_8 (sbox (get_or (word key k) r 0)) 0 (sbox_small (get_or (word key k) r 0) (has.bytes k r)) (omega arith)

-- a byte of temp at a multiple of Nk, with the word and the quotient named
temp_is : (key : List ℕ) (nk n k j r : ℕ) → n % nk ≡ 0 → n - 1 ≡ k → n / nk ≡ j → r < 4
    → get_or (temp nk n (word key (n - 1))) r 0 ≡ rotated_temp key k j r
temp_is key nk n k j r multiple before quotient l =
    temp_rotated nk n r (word key (n - 1)) multiple l
    ∙ ap₂ (λ (i q : ℕ). bit_xor (sbox (rotated key i r)) (get_or (rcon q) r 0)) before quotient

-- the next four words of a key of four words
pub follows128 : (key : List ℕ) (r : ℕ) → HasWords key 4 → r < 10
    → Follows 4 (schedule key) (4 * r) (4 * (r + 1)) (rotated_temp key (4 * r + 3) (r + 1))
follows128 key r has l =
    let n : ℕ = 4 * (r + 1) in
    let size : key_words key ≡ 4 = has.words in
    let back : 4 + 4 * r ≡ n = omega arith in
    let multiple : n % 4 ≡ 0 = omega arith in
    let before : n - 1 ≡ 4 * r + 3 = omega arith in
    let quotient : n / 4 ≡ r + 1 = omega arith in
    follows key 4 (4 * r) n 4 (rotated_temp key (4 * r + 3) (r + 1)) size (omega arith) back (omega arith) (omega arith)
    (λ i g h. (λ e. omega (arith, e, g, h), λ e f. omega (arith, e)))
    (λ q h. temp_is key 4 n (4 * r + 3) (r + 1) q multiple before quotient h)

-- the next four words of a key of six words at a multiple of six
pub follows192 : (key : List ℕ) (j m n k : ℕ) → HasWords key 6 → j < 8 → m ≡ 6 * j → m + 6 ≡ n → k + 1 ≡ n
    → Follows 4 (schedule key) m n (rotated_temp key k (j + 1))
follows192 key j m n k has l at e before =
    let size : key_words key ≡ 6 = has.words in
    let back : 6 + m ≡ n = omega arith in
    let multiple : n % 6 ≡ 0 = omega arith in
    let last : n - 1 ≡ k = omega arith in
    let quotient : n / 6 ≡ j + 1 = omega arith in
    follows key 6 m n 4 (rotated_temp key k (j + 1)) size (omega arith) back (omega arith) (omega arith)
    (λ i g h. (λ e. omega (arith, e, g, h, multiple), λ e f. omega (arith, e)))
    (λ q h. temp_is key 6 n k (j + 1) q multiple last quotient h)

-- the two words after them
pub follows192_rest : (key : List ℕ) (j m n k : ℕ) → HasWords key 6 → j < 7 → m ≡ 6 * j + 4 → m + 6 ≡ n → k + 1 ≡ n
    → Follows 2 (schedule key) m n (λ r. get_or (word key k) r 0)
follows192_rest key j m n k has l at e before =
    let size : key_words key ≡ 6 = has.words in
    let back : 6 + m ≡ n = omega arith in
    let fourth : n % 6 ≡ 4 = omega arith in
    let last : n - 1 ≡ k = omega arith in
    follows key 6 m n 2 (λ r. get_or (word key k) r 0) size (omega arith) back (omega arith) (omega arith)
    (λ i g h. (λ e. omega (arith, e, g, h, fourth), λ e f. omega (arith, e)))
    (λ q h. temp_plain n q (word key (n - 1)) fourth ∙ ap (λ (i : ℕ). get_or (word key i) q 0) last)

-- the next four words of a key of eight words at a multiple of eight
pub follows256 : (key : List ℕ) (j m n k : ℕ) → HasWords key 8 → j < 7 → m ≡ 8 * j → m + 8 ≡ n → k + 1 ≡ n
    → Follows 4 (schedule key) m n (rotated_temp key k (j + 1))
follows256 key j m n k has l at e before =
    let size : key_words key ≡ 8 = has.words in
    let back : 8 + m ≡ n = omega arith in
    let multiple : n % 8 ≡ 0 = omega arith in
    let last : n - 1 ≡ k = omega arith in
    let quotient : n / 8 ≡ j + 1 = omega arith in
    follows key 8 m n 4 (rotated_temp key k (j + 1)) size (omega arith) back (omega arith) (omega arith)
    (λ i g h. (λ e. omega (arith, e, g, h, multiple), λ e f. omega (arith, f, g, h, multiple)))
    (λ q h. temp_is key 8 n k (j + 1) q multiple last quotient h)

-- the four words after them
pub follows256_rest : (key : List ℕ) (j m n k : ℕ) → HasWords key 8 → j < 6 → m ≡ 8 * j + 4 → m + 8 ≡ n → k + 1 ≡ n
    → Follows 4 (schedule key) m n (halfway_temp key k)
follows256_rest key j m n k has l at e before =
    let size : key_words key ≡ 8 = has.words in
    let wide : length key ≡ 32 = has.long in
    let back : 8 + m ≡ n = omega arith in
    let fourth : n % 8 ≡ 4 = omega arith in
    let last : n - 1 ≡ k = omega arith in
    follows key 8 m n 4 (halfway_temp key k) size (omega arith) back (omega arith) (omega arith)
    (λ i g h. (λ e. omega (arith, e, g, h, fourth), λ e f. omega (arith, f, g, h, fourth)))
    (λ q h. temp_halfway n q (word key (n - 1)) fourth
    (word_long key (n - 1) (omega arith) (omega arith) (omega arith)) h
    ∙ ap (λ (i : ℕ). bit_xor (sbox (get_or (word key i) q 0)) 0) last)

-- the S-box in the basis without its constant, plus a round constant with it
pub sub_lane : (x k : ℕ) → x < 256 → k < 256
    → bit_xor (in_basis (linear_sbox x)) (bit_xor (in_basis k) 0x7c) ≡ in_basis (bit_xor (sbox x) k)
sub_lane x k hx hk =
    ap (bit_xor (in_basis (linear_sbox x))) (ap (bit_xor (in_basis k)) (sym constant_in_basis)
    ∙ in_basis_xor k 0x63 hk (omega arith))
    ∙ in_basis_xor (linear_sbox x) (bit_xor k 0x63) (linear_small x hx) (xor_of_8 k 0x63 hk (omega arith))
    ∙ ap in_basis (lane_last x k)

-- ---- words that are moved
-- RotWord of the last of four words
pub rotated_lanes : (key v x : List ℕ) (m k : ℕ) → HoldsWords 4 x (schedule key) m → m + 3 ≡ k
    → ((i : ℕ) → i < 16 → get_or v i 0 ≡ get_or x (12 + (i % 4 + 1) % 4) 0) → (i : ℕ) → i < 16
    → get_or v i 0 ≡ in_basis (rotated key k (i % 4))
rotated_lanes key v x m k held e moved i l =
    let r : ℕ = (i % 4 + 1) % 4 in
    moved i l ∙ held.each (12 + r) (omega arith)
    ∙ ap in_basis (byte_place (schedule key) m 3 r (omega arith) ∙ ap (λ (j : ℕ). get_or (word key j) r 0) e)

-- RotWord of the second of two words
pub rotated_second_lanes : (key v x : List ℕ) (m k : ℕ) → HoldsWords 2 x (schedule key) m → m + 1 ≡ k
    → ((i : ℕ) → i < 16 → get_or v i 0 ≡ get_or x (4 + (i % 4 + 1) % 4) 0) → (i : ℕ) → i < 16
    → get_or v i 0 ≡ in_basis (rotated key k (i % 4))
rotated_second_lanes key v x m k held e moved i l =
    let r : ℕ = (i % 4 + 1) % 4 in
    moved i l ∙ held.each (4 + r) (omega arith)
    ∙ ap in_basis (byte_place (schedule key) m 1 r (omega arith) ∙ ap (λ (j : ℕ). get_or (word key j) r 0) e)

-- the last of four words
pub last_lanes : (key v x : List ℕ) (m k : ℕ) → HoldsWords 4 x (schedule key) m → m + 3 ≡ k
    → ((i : ℕ) → i < 16 → get_or v i 0 ≡ get_or x (12 + i % 4) 0) → (i : ℕ) → i < 16
    → get_or v i 0 ≡ in_basis (get_or (word key k) (i % 4) 0)
last_lanes key v x m k held e moved i l =
    let r : ℕ = i % 4 in
    moved i l ∙ held.each (12 + r) (omega arith)
    ∙ ap in_basis (byte_place (schedule key) m 3 r (omega arith) ∙ ap (λ (j : ℕ). get_or (word key j) r 0) e)

-- words from another place on that is the same
pub same_words : {count : ℕ} (v : List ℕ) (ws : List (List ℕ)) (m n : ℕ) → m ≡ n → HoldsWords count v ws m
    → HoldsWords count v ws n
same_words {count = count} v ws m n e held = subst (λ (k : ℕ). HoldsWords count v ws k) e held

-- the bytes of a key from a multiple of 4 on, in the basis, are its words
pub key_words_held : (count : ℕ) (key v bytes : List ℕ) (nk k : ℕ) → HasWords key nk → count ≤ 4 → k + count ≤ nk
    → ((i : ℕ) → i < 4 * count → get_or bytes i 0 ≡ get_or key (4 * k + i) 0)
    → ((i : ℕ) → i < 16 → get_or v i 0 ≡ in_basis (get_or bytes i 0)) → HoldsWords count v (schedule key) k
key_words_held count key v bytes nk k has few within is made = record {
  each = λ i l.
      let words : key_words key ≡ nk = has.words in
      let place : 4 * (k + i / 4) + i % 4 ≡ 4 * k + i = omega arith in
      made i (omega arith)
      ∙ ap in_basis (is i l ∙ ap (λ (p : ℕ). get_or key p 0) (sym place)
      ∙ sym (start_byte key (k + i / 4) (i % 4) (omega arith) (omega arith) (omega arith)));
}

-- the first sixteen bytes of a key are its first round key
pub first_key : (key bytes : List ℕ) (nk : ℕ) → HasWords key nk → 4 ≤ nk
    → ((i : ℕ) → i < 16 → get_or bytes i 0 ≡ get_or key (0 + i) 0) → (i : ℕ) → i < 16
    → get_or bytes i 0 ≡ word_byte (schedule key) 0 i
first_key key bytes nk has few is i l =
    let words : key_words key ≡ nk = has.words in
    let place : 4 * (4 * 0 + i / 4) + i % 4 ≡ 0 + i = omega arith in
    is i l ∙ ap (λ (p : ℕ). get_or key p 0) (sym place)
    ∙ sym (start_byte key (4 * 0 + i / 4) (i % 4) (omega arith) (omega arith) (omega arith))

-- two words and the first two of the four after them
pub joined_first : (v two four : List ℕ) (ws : List (List ℕ)) (m : ℕ) → HoldsWords 2 two ws m → HoldsWords 4 four ws (m + 2)
    → ((i : ℕ) → i < 8 → get_or v i 0 ≡ get_or two i 0) → ((i : ℕ) → i < 8 → get_or v (8 + i) 0 ≡ get_or four i 0)
    → HoldsWords 4 v ws m
joined_first v two four ws m a b low high = record {
  each = λ i l. elim (cases_lt i 8) [
    | inl g ↦ low i g ∙ a.each i (omega arith)
    | inr g ↦
        let place : 8 + (i - 8) ≡ i = omega arith in
        let word_is : m + 2 + (i - 8) / 4 ≡ m + i / 4 = omega arith in
        let byte_is : (i - 8) % 4 ≡ i % 4 = omega arith in
        sym (ap (λ (p : ℕ). get_or v p 0) place) ∙ high (i - 8) (omega arith) ∙ b.each (i - 8) (omega arith)
        ∙ ap₂ (λ (k r : ℕ). in_basis (get_or (get_or ws k []) r 0)) word_is byte_is
  ];
}

-- the last two of four words and the two after them
pub joined_last : (v four two : List ℕ) (ws : List (List ℕ)) (m : ℕ) → HoldsWords 4 four ws m → HoldsWords 2 two ws (m + 4)
    → ((i : ℕ) → i < 8 → get_or v i 0 ≡ get_or four (8 + i) 0) → ((i : ℕ) → i < 8 → get_or v (8 + i) 0 ≡ get_or two i 0)
    → HoldsWords 4 v ws (m + 2)
joined_last v four two ws m a b low high = record {
  each = λ i l. elim (cases_lt i 8) [
    | inl g ↦
        let word_is : m + (8 + i) / 4 ≡ m + 2 + i / 4 = omega arith in
        let byte_is : (8 + i) % 4 ≡ i % 4 = omega arith in
        low i g ∙ a.each (8 + i) (omega arith)
        ∙ ap₂ (λ (k r : ℕ). in_basis (get_or (get_or ws k []) r 0)) word_is byte_is
    | inr g ↦
        let place : 8 + (i - 8) ≡ i = omega arith in
        let word_is : m + 4 + (i - 8) / 4 ≡ m + 2 + i / 4 = omega arith in
        let byte_is : (i - 8) % 4 ≡ i % 4 = omega arith in
        sym (ap (λ (p : ℕ). get_or v p 0) place) ∙ high (i - 8) (omega arith) ∙ b.each (i - 8) (omega arith)
        ∙ ap₂ (λ (k r : ℕ). in_basis (get_or (get_or ws k []) r 0)) word_is byte_is
  ];
}

-- ---- round keys that are no longer ready
-- a stored round key whose rows are moved back, without the constant, is the round key in the basis
pub unshifted : (v x stored : List ℕ) (ws : List (List ℕ)) (n : ℕ) → length v ≡ 16
    → ((i : ℕ) → i < 16 → get_or x i 0 ≡ bit_xor (get_or stored i 0) (get_or (replicate 16 0x7c) i 0))
    → ((i : ℕ) → i < 16 → get_or stored i 0 ≡ ready_byte ws n (row_source i))
    → ((i : ℕ) → i < 16 → get_or v i 0 ≡ get_or x (row_target i) 0) → HasLanes 16 v (λ i. in_basis (word_byte ws n i))
unshifted v x stored ws n long sum_is kept moved = record {
  long = long;
  each = λ i l.
      let target = target_at i l in
      let b : ℕ = in_basis (word_byte ws n i) in
      moved i l ∙ sum_is (row_target i) target.1
      ∙ ap₂ bit_xor (kept (row_target i) target.1 ∙ ap (ready_byte ws n) target.0)
      (get_or-replicate {A = ℕ} 16 (row_target i) 0x7c 0 target.1)
      ∙ xor_assoc b 0x7c 0x7c ∙ xor_zero_r b;
}

-- a stored round key, row by row, is the round key with the constant of the S-box, in the basis
pub middle_lanes : (v stored : List ℕ) (ws : List (List ℕ)) (n : ℕ) → length v ≡ 16 → AreBytes ws
    → ((i : ℕ) → i < 16 → get_or stored i 0 ≡ ready_byte ws n (row_source i))
    → ((l : ℕ) → l < 16 → get_or v l 0 ≡ get_or stored (row_target (spot l)) 0)
    → HasLanes 16 v (λ l. in_basis (masked_byte ws n (spot l)))
middle_lanes v stored ws n long bytes kept moved = record {
  long = long;
  each = λ l h.
      let within : spot l < 16 = omega arith in
      let target = target_at (spot l) within in
      let b : ℕ = word_byte ws n (spot l) in
      moved l h ∙ kept (row_target (spot l)) target.1 ∙ ap (ready_byte ws n) target.0
      ∙ ap (bit_xor (in_basis b)) (sym constant_in_basis)
      ∙ in_basis_xor b 0x63 (bytes (4 * n + spot l / 4) (spot l % 4)) (omega arith);
}

-- ---- round keys as words
-- the bytes of four columns are those of the state
column_bytes : (a b c d j r : ℕ) → j < 4 → r < 4
    → get_or (get_or (columns_of (a ∷ b ∷ c ∷ d ∷ [])) j []) r 0 ≡ get_or (state_of (a ∷ b ∷ c ∷ d ∷ [])) (4 * j + r) 0
unfolding column_of
column_bytes a b c d zero zero g h = refl
column_bytes a b c d zero (suc zero) g h = refl
column_bytes a b c d zero (suc (suc zero)) g h = refl
column_bytes a b c d zero (suc (suc (suc zero))) g h = refl
column_bytes a b c d (suc zero) zero g h = refl
column_bytes a b c d (suc zero) (suc zero) g h = refl
column_bytes a b c d (suc zero) (suc (suc zero)) g h = refl
column_bytes a b c d (suc zero) (suc (suc (suc zero))) g h = refl
column_bytes a b c d (suc (suc zero)) zero g h = refl
column_bytes a b c d (suc (suc zero)) (suc zero) g h = refl
column_bytes a b c d (suc (suc zero)) (suc (suc zero)) g h = refl
column_bytes a b c d (suc (suc zero)) (suc (suc (suc zero))) g h = refl
column_bytes a b c d (suc (suc (suc zero))) zero g h = refl
column_bytes a b c d (suc (suc (suc zero))) (suc zero) g h = refl
column_bytes a b c d (suc (suc (suc zero))) (suc (suc zero)) g h = refl
column_bytes a b c d (suc (suc (suc zero))) (suc (suc (suc zero))) g h = refl
column_bytes a b c d j (suc (suc (suc (suc r)))) g h = absurd (omega arith)
column_bytes a b c d (suc (suc (suc (suc j)))) r g h = absurd (omega arith)

-- a column has four bytes
column_long : (w : ℕ) → length (column_of w) ≡ 4
unfolding column_of
column_long w = refl

-- four words that spell a round key are its words
pub key_columns_are : (vs bytes key : List ℕ) (nk n c : ℕ) → length vs ≡ 4 → state_of vs ≡ bytes → HasWords key nk → 0 < nk
    → ((i : ℕ) → i < 16 → get_or bytes i 0 ≡ word_byte (schedule key) n i) → n ≤ round_count key → c < 4
    → get_or (columns_of vs) c [] ≡ get_or (schedule key) (4 * n + c) []
key_columns_are vs bytes key nk n c long e has some is within l =
    let words : key_words key ≡ nk = has.words in
    let wide : length key ≡ 4 * nk = has.long in
    let columns : length (columns_of vs) ≡ 4 = length-map vs column_of ∙ long in
    let four : length (get_or (columns_of vs) c []) ≡ 4 =
    ap length (get_or-map column_of vs c 0 [] (omega arith)) ∙ column_long (get_or vs c 0) in
    let size : length (get_or (schedule key) (4 * n + c) []) ≡ 4 =
    word_long key (4 * n + c) (omega arith) (omega arith) (omega arith) in
    ext_get_or 0 (get_or (columns_of vs) c []) (get_or (schedule key) (4 * n + c) []) (four ∙ sym size) (λ r g.
    let small : r < 4 = omega (arith, four) in
    subst (λ (us : List ℕ). get_or (get_or (columns_of us) c []) r 0 ≡ get_or (state_of us) (4 * c + r) 0) (quad vs long)
    (column_bytes (get_or vs 0 0) (get_or vs 1 0) (get_or vs 2 0) (get_or vs 3 0) c r l small)
    ∙ ap (λ (s : List ℕ). get_or s (4 * c + r) 0) e ∙ is (4 * c + r) (omega arith)
    ∙ byte_place (schedule key) (4 * n) c r small)
