-- An expanded key, and the rounds that use its words.
use Rattle.std.proofs.Common.{◌≡◌, ℕ, suc, ◌+◌, ◌-◌, ◌*◌, ◌/◌, ◌%◌, ◌<◌, ◌≤◌, true, ◌&&◌, ◌==◌, ltb, List, [], map}
use Rattle.std.proofs.Common.{get_or, length, drop, refl, sym, ap, ap₂, ◌∙◌, arith, inl, inr, zero-add, bit_xor, add-one}
use Rattle.std.proofs.Common.{subst, ltb-true}
use Rattle.std.specs.List.{range_with_len}
use Rattle.std.specs.Int.Bits.{xor_assoc, xor_zero_r}
use Rattle.std.proofs.lemmas.Bool.{and_parts, eqb-true, cases_eq, eq-eqb, ne_eqb}
use Rattle.std.proofs.lemmas.List.FromFn.{get_or-map-range_with_len, length-map-range_with_len}
use Rattle.std.proofs.lemmas.List.{ext_get_or, get_or-drop}
use Rattle.aes.specs.Schedule.{round_count, schedule, key_words}
use Rattle.aes.specs.Code.Lanes.{in_basis, from_basis, row_source, row_target}
use Rattle.aes.specs.Code.Planes.{word_byte}
use Rattle.aes.specs.Code.ReadyKeys.{KeepsReadyKeys}
use Rattle.aes.specs.Code.ExpandedKey.{key_of, plain_byte, length_key_of, IsKeySize, IsExpanded}
use Rattle.aes.specs.Cipher.{at, grid, sub_bytes, shift_rows, mix_columns, add_round_key, rounds, cipher}
use Rattle.aes.specs.Cipher.{IsKey, IsKeyLength}
use Rattle.aes.proofs.Grids.{grid_is}
use Rattle.aes.proofs.Tested.{all_below, all_below_at}
use Rattle.aes.proofs.Steps.{AreWords}
use Rattle.aes.proofs.Permutation.{words_are}
use Rattle.aes.proofs.FourBlocks.{from_in_basis}
use Rattle.aes.proofs.Schedules.{start_byte}

-- ws begins with the schedule of the key
abbrev pub HasSchedule : List (List ℕ) → List ℕ → Type 0
HasSchedule ws key = (k : ℕ) → k < 4 * (round_count key + 1) → get_or ws k [] ≡ get_or (schedule key) k []

-- the place from which ShiftRows brings the byte that it moves to a place, tested at each place
target_computed : all_below (λ i. (row_source (row_target i) == i) && ltb (row_target i) 16) 16 ≡ true
target_computed = refl

-- the place to which ShiftRows moves a byte is the place from which it brings it
pub target_at : (i : ℕ) → i < 16 → (row_source (row_target i) ≡ i) × (row_target i < 16)
target_at i l =
    let both = and_parts (row_source (row_target i) == i) (ltb (row_target i) 16)
    (all_below_at (λ i. (row_source (row_target i) == i) && ltb (row_target i) 16) 16 i target_computed l) in
    (eqb-true (row_source (row_target i)) i both.0, ltb-true (row_target i) 16 both.1)

-- a byte of a word is a byte of the words of the schedule, as its round keys have it
pub word_of_key : (key : List ℕ) (n i : ℕ) → key_words key ≤ 8 → 0 < key_words key → 4 * n + i / 4 < key_words key → i < 16
    → word_byte (schedule key) n i ≡ get_or key (16 * n + i) 0
word_of_key key n i most some within l =
    let place : 4 * (4 * n + i / 4) + i % 4 ≡ 16 * n + i = omega arith in
    start_byte key (4 * n + i / 4) (i % 4) some within (omega arith) ∙ ap (λ (p : ℕ). get_or key p 0) place

-- the stored byte of a ready key, out of the basis and without the constant, is the byte of the round key
pub plain_is : (x b : ℕ) → b < 256 → x ≡ bit_xor (in_basis b) 0x7c → from_basis (bit_xor x 0x7c) ≡ b
plain_is x b small e =
    ap from_basis (ap (λ (y : ℕ). bit_xor y 0x7c) e ∙ xor_assoc (in_basis b) 0x7c 0x7c ∙ xor_zero_r (in_basis b))
    ∙ from_in_basis b small

-- a key has some words, and at most eight
pub some_words : (n : ℕ) → IsKeySize n → 0 < n
some_words n (inl e) = omega (arith, e)
some_words n (inr (inl e)) = omega (arith, e)
some_words n (inr (inr e)) = omega (arith, e)

pub most_words : (n : ℕ) → IsKeySize n → n ≤ 8
most_words n (inl e) = omega (arith, e)
most_words n (inr (inl e)) = omega (arith, e)
most_words n (inr (inr e)) = omega (arith, e)

-- the first bytes of the stored round keys of a key spell it
pub spelled : (keys : List (List ℕ)) (key : List ℕ) (n : ℕ) → ((i : ℕ) → get_or key i 0 < 256) → IsKeySize n
    → length key ≡ 4 * n → KeepsReadyKeys keys key → key_of keys n ≡ key
unfolding key_of
spelled keys key n small size long kept =
    let bytes : AreWords (schedule key) = words_are key (4 * (round_count key + 1)) small in
    let most : n ≤ 8 = most_words n size in
    let some : 0 < n = some_words n size in
    let words : key_words key ≡ n = omega arith in
    let wide = length-map-range_with_len (λ i. plain_byte keys (i / 16) (i % 16)) 0 (4 * n) in
    ext_get_or 0 (map (λ i. plain_byte keys (i / 16) (i % 16)) (range_with_len 0 (4 * n))) key (wide ∙ sym long) (λ i l.
    let within : i < 4 * n = omega (arith, wide) in
    let low : i % 16 < 16 = omega arith in
    let place : 16 * (i / 16) + i % 16 ≡ i = omega arith in
    let of_word : 4 * (i / 16) + i % 16 / 4 < key_words key = omega arith in
    get_or-map-range_with_len (λ i. plain_byte keys (i / 16) (i % 16)) 0 (4 * n) i i 0 within (zero-add i)
    ∙ elim (cases_eq (i / 16) 0) [
      | inl e ↦ rw (eq-eqb (i / 16) 0 e) (kept.first (i % 16) low
          ∙ ap (λ (q : ℕ). word_byte (schedule key) q (i % 16)) (sym e))
      | inr e ↦ rw (ne_eqb (i / 16) 0 e)
          (let target = target_at (i % 16) low in
          plain_is _ (word_byte (schedule key) (i / 16) (i % 16)) (bytes (4 * (i / 16) + i % 16 / 4) (i % 16 % 4))
          (kept.middle (i / 16) (row_target (i % 16)) (omega arith) (omega arith) target.1
          ∙ ap (λ (p : ℕ). bit_xor (in_basis (word_byte (schedule key) (i / 16) p)) 0x7c) target.0))
    ]
    ∙ word_of_key key (i / 16) (i % 16) (omega arith) (omega arith) of_word low
    ∙ ap (λ (p : ℕ). get_or key p 0) place)

-- round keys that are a key's are an expanded key
pub expanded : (keys : List (List ℕ)) (key : List ℕ) (n : ℕ) → ((i : ℕ) → get_or key i 0 < 256) → IsKeySize n
    → length key ≡ 4 * n → KeepsReadyKeys keys key → IsExpanded keys n
expanded keys key n small size long kept =
    let k : key_of keys n ≡ key = spelled keys key n small size long kept in
    record {
      size = size;
      length_is = length_key_of keys n;
      bytes = λ i. rw k (small i);
      keys_are = subst (KeepsReadyKeys keys) (sym k) kept;
    }

-- the stored round keys of an expanded key are those of the key that they spell
pub kept_keys : (keys : List (List ℕ)) (n : ℕ) (key : List ℕ) → IsExpanded keys n → key_of keys n ≡ key
    → KeepsReadyKeys keys key
kept_keys keys n key x e = subst (KeepsReadyKeys keys) e x.keys_are

-- grids that agree at their sixteen places are equal
grid_same : (f h : ℕ → ℕ → ℕ) → ((k : ℕ) → k < 16 → f (k % 4) (k / 4) ≡ h (k % 4) (k / 4)) → grid f ≡ grid h
grid_same f h same =
    grid_is h (grid f) refl (λ k l.
    get_or-map-range_with_len (λ i. f (i % 4) (i / 4)) 0 16 k k 0 l (zero-add k) ∙ same k l)

-- AddRoundKey with the four words of round n is AddRoundKey with round key n of the schedule
pub round_key_is : (vs ws : List (List ℕ)) (key : List ℕ) (n : ℕ) (s : List ℕ)
    → ((c : ℕ) → c < 4 → get_or vs c [] ≡ get_or ws (4 * n + c) [])
    → HasSchedule ws key → n ≤ round_count key → add_round_key vs 0 s ≡ add_round_key (schedule key) n s
unfolding add_round_key
round_key_is vs ws key n s four has within =
    grid_same (λ r c. bit_xor (at s r c) (get_or (get_or vs (4 * 0 + c) []) r 0))
    (λ r c. bit_xor (at s r c) (get_or (get_or (schedule key) (4 * n + c) []) r 0))
    (λ k h.
    let first : 4 * 0 + k / 4 ≡ k / 4 = omega arith in
    ap (λ w. bit_xor (at s (k % 4) (k / 4)) (get_or w (k % 4) 0))
    (ap (λ i. get_or vs i []) first ∙ four (k / 4) (omega arith) ∙ has (4 * n + k / 4) (omega arith)))

-- the state before the first round is AddRoundKey with round key 0
pub rounds_start : (ws : List (List ℕ)) (s : List ℕ) → rounds ws 0 s ≡ add_round_key ws 0 s
unfolding rounds
rounds_start ws s = refl

-- n + 1 rounds are n rounds and then one round more
pub rounds_more : (ws : List (List ℕ)) (n : ℕ) (s : List ℕ)
    → rounds ws (n + 1) s ≡ add_round_key ws (n + 1) (mix_columns (shift_rows (sub_bytes (rounds ws n s))))
unfolding rounds
rounds_more ws n s = rw add-one refl

-- the cipher is all rounds but the last, and then the last round
pub cipher_is : (key s : List ℕ) → cipher key s
    ≡ add_round_key (schedule key) (round_count key)
    (shift_rows (sub_bytes (rounds (schedule key) (round_count key - 1) s)))
unfolding cipher
cipher_is key s = refl

-- n + 1 rounds are n rounds and then one round more, with `suc n` as in the definition
pub rounds_suc : (ws : List (List ℕ)) (n : ℕ) (s : List ℕ)
    → rounds ws (suc n) s ≡ add_round_key ws (suc n) (mix_columns (shift_rows (sub_bytes (rounds ws n s))))
unfolding rounds
rounds_suc ws n s = refl

-- ---- the state that the code has after each round, where vs has the words of that round
pub first_state : (vs ws : List (List ℕ)) (key b s t : List ℕ) → HasSchedule ws key
    → ((c : ℕ) → c < 4 → get_or vs c [] ≡ get_or ws (4 * 0 + c) [])
    → s ≡ b → t ≡ add_round_key vs 0 s → t ≡ rounds (schedule key) 0 b
first_state vs ws key b s t has four e f =
    f ∙ ap (add_round_key vs 0) e ∙ round_key_is vs ws key 0 b four has (omega arith)
    ∙ sym (rounds_start (schedule key) b)

-- if s is the state after n rounds, one round more gives the state after n + 1 rounds
pub next_state : (vs ws : List (List ℕ)) (key : List ℕ) (n : ℕ) (b s t : List ℕ) → HasSchedule ws key
    → n + 1 ≤ round_count key
    → ((c : ℕ) → c < 4 → get_or vs c [] ≡ get_or ws (4 * (n + 1) + c) []) → s ≡ rounds (schedule key) n b
    → t ≡ add_round_key vs 0 (mix_columns (shift_rows (sub_bytes s))) → t ≡ rounds (schedule key) (n + 1) b
next_state vs ws key n b s t has within four e f =
    f ∙ round_key_is vs ws key (n + 1) (mix_columns (shift_rows (sub_bytes s))) four has within
    ∙ ap (add_round_key (schedule key) (n + 1)) (ap mix_columns (ap shift_rows (ap sub_bytes e)))
    ∙ sym (rounds_more (schedule key) n b)

-- if s is the state before the last round, the last round gives the cipher
pub last_state : (vs ws : List (List ℕ)) (key : List ℕ) (n m : ℕ) (b s t : List ℕ) → HasSchedule ws key
    → m ≡ round_count key → n ≡ round_count key - 1
    → ((c : ℕ) → c < 4 → get_or vs c [] ≡ get_or ws (4 * m + c) []) → s ≡ rounds (schedule key) n b
    → t ≡ add_round_key vs 0 (shift_rows (sub_bytes s)) → t ≡ cipher key b
last_state vs ws key n m b s t has count last four e f =
    f ∙ round_key_is vs ws key m (shift_rows (sub_bytes s)) four has (omega arith)
    ∙ ap₂ (add_round_key (schedule key)) count
    (ap shift_rows (ap sub_bytes (e ∙ ap (λ (i : ℕ). rounds (schedule key) i b) last)))
    ∙ sym (cipher_is key b)

-- a key of 4, 6 or 8 words has 16, 24 or 32 bytes
pub key_length : (key : List ℕ) (n : ℕ) → IsKeySize n → length key ≡ 4 * n → IsKeyLength (length key)
key_length key n (inl e) h = inl (omega arith)
key_length key n (inr (inl e)) h = inr (inl (omega arith))
key_length key n (inr (inr e)) h = inr (inr (omega arith))

-- a key of 16, 24 or 32 bytes has 4, 6 or 8 words
pub key_size : (key : List ℕ) → IsKeyLength (length key)
    → IsKeySize (length key / 4) × (length key ≡ 4 * (length key / 4))
key_size key (inl e) = (inl (omega arith), omega arith)
key_size key (inr (inl e)) = (inr (inl (omega arith)), omega arith)
key_size key (inr (inr e)) = (inr (inr (omega arith)), omega arith)

-- the key that an expanded key spells has four bytes for each of its words
pub kept_length : (keys : List (List ℕ)) (n : ℕ) (key : List ℕ) → IsExpanded keys n → key_of keys n ≡ key → length key ≡ 4 * n
kept_length keys n key x e = sym (ap length e) ∙ length_key_of keys n

-- the key that an expanded key spells is a key of AES
pub is_key : (keys : List (List ℕ)) (n : ℕ) (key : List ℕ) → IsExpanded keys n → key_of keys n ≡ key → IsKey key
is_key keys n key x e =
    subst IsKey e (record { length_is = key_length (key_of keys n) n x.size (length_key_of keys n); bytes = x.bytes })

-- a round that uses the words from its own ones on is a round of the schedule
pub next_round : (key b : List ℕ) (n : ℕ) → n + 1 ≤ round_count key
    → add_round_key (drop (4 * (n + 1)) (schedule key)) 0
    (mix_columns (shift_rows (sub_bytes (rounds (schedule key) n b)))) ≡ rounds (schedule key) (n + 1) b
next_round key b n within =
    let ws = schedule key in
    next_state (drop (4 * (n + 1)) ws) ws key n b (rounds ws n b) _ (λ i h. refl) within
    (λ c l. get_or-drop (4 * (n + 1)) ws c []) refl refl

-- the last round that uses the words from its own ones on gives the cipher
pub final_round : (key b : List ℕ) (n : ℕ) → n ≡ round_count key - 1
    → add_round_key (drop (4 * round_count key) (schedule key)) 0
    (shift_rows (sub_bytes (rounds (schedule key) n b))) ≡ cipher key b
final_round key b n before =
    let ws = schedule key in
    last_state (drop (4 * round_count key) ws) ws key n (round_count key) b (rounds ws n b) _ (λ i h. refl) refl before
    (λ c l. get_or-drop (4 * round_count key) ws c []) refl refl
