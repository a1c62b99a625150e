-- The cipher is one to one and onto under every key.
use Rattle.std.proofs.Common.{◌≡◌, ℕ, zero, suc, ◌+◌, ◌-◌, ◌*◌, ◌/◌, ◌%◌, ◌<◌, ◌≤◌, Bool, true, false, cond}
use Rattle.std.proofs.Common.{◌&&◌, ◌==◌, nat_lt, List, [], ◌∷◌, ◌++◌, take, drop, get_or, length, inl, inr}
use Rattle.std.proofs.Common.{sym, ap, ◌∙◌, arith, bit_xor, lt_of_lt_of_le, pow_mono, get_or-drop}
use Rattle.std.proofs.Common.{length-take}
use Rattle.std.proofs.lemmas.Bool.{cases_lt}
use Rattle.std.proofs.lemmas.Nat.{xor_of_8}
use Rattle.std.proofs.lemmas.List.{get_or_past, get_or-take}
use Rattle.octets.specs.Bits.{number}
use Rattle.octets.specs.Polynomial.{residue}
use Rattle.octets.proofs.Residue.{length_residue}
use Rattle.octets.proofs.BitFacts.{number_lt}
use Rattle.aes.specs.Field.{modulus}
use Rattle.aes.specs.Schedule.{xor_word, sub_word, rot_word, rcon, x_power, temp, next_word, words}
use Rattle.aes.specs.Schedule.{schedule, key_words, round_count}
use Rattle.octets.specs.Bytes.{IsBlock}
use Rattle.aes.specs.Cipher.{sub_bytes, shift_rows, mix_columns, add_round_key, rounds, cipher, IsKey}
use Rattle.aes.specs.Cipher.{IsPermutation}
use Rattle.aes.proofs.Steps.{AreWords, sbox_small, sub_block, unsub, unsub_block, sub_unsub, unsub_sub}
use Rattle.aes.specs.Code.InverseSteps.{inverse_mix_columns}
use Rattle.aes.proofs.Steps.{shift_block, unshift, unshift_block, shift_unshift, unshift_shift}
use Rattle.aes.proofs.Steps.{mix_block, unmix_block, mix_unmix_block, unmix_mix_block, add_twice, add_block}

-- ---- the words of a schedule consist of bytes
abbrev IsWord : List ℕ → Type 0
IsWord w = (r : ℕ) → get_or w r 0 < 256

-- the empty word consists of bytes
nil_word : IsWord []
nil_word r = omega arith

-- a word of four bytes consists of bytes
four_word : (a b c d : ℕ) → a < 256 → b < 256 → c < 256 → d < 256 → IsWord (a ∷ b ∷ c ∷ d ∷ [])
four_word a b c d ha hb hc hd zero = ha
four_word a b c d ha hb hc hd (suc zero) = hb
four_word a b c d ha hb hc hd (suc (suc zero)) = hc
four_word a b c d ha hb hc hd (suc (suc (suc zero))) = hd
four_word a b c d ha hb hc hd (suc (suc (suc (suc r)))) = omega arith

-- the sum of two words of bytes consists of bytes
xor_word_is : (v w : List ℕ) → IsWord v → IsWord w → IsWord (xor_word v w)
unfolding xor_word
xor_word_is v w hv hw =
    four_word (bit_xor (get_or v 0 0) (get_or w 0 0)) (bit_xor (get_or v 1 0) (get_or w 1 0))
    (bit_xor (get_or v 2 0) (get_or w 2 0)) (bit_xor (get_or v 3 0) (get_or w 3 0))
    (xor_of_8 (get_or v 0 0) (get_or w 0 0) (hv 0) (hw 0))
    (xor_of_8 (get_or v 1 0) (get_or w 1 0) (hv 1) (hw 1))
    (xor_of_8 (get_or v 2 0) (get_or w 2 0) (hv 2) (hw 2))
    (xor_of_8 (get_or v 3 0) (get_or w 3 0) (hv 3) (hw 3))

-- SubWord of a word of bytes consists of bytes
sub_word_is : (w : List ℕ) → IsWord w → IsWord (sub_word w)
sub_word_is [] h r = omega arith
sub_word_is (x ∷ w) h zero = sbox_small x (h 0)
sub_word_is (x ∷ w) h (suc r) = sub_word_is w (λ i. h (suc i)) r

-- RotWord of a word of bytes consists of bytes
pub rot_word_is : (w : List ℕ) → IsWord w → IsWord (rot_word w)
rot_word_is w h = four_word (get_or w 1 0) (get_or w 2 0) (get_or w 3 0) (get_or w 0 0) (h 1) (h 2) (h 3)
    (h 0)

-- a round constant consists of bytes
pub rcon_is_word : (j : ℕ) → IsWord (rcon j)
unfolding rcon
rcon_is_word j =
    let p : List Bool = residue modulus (x_power (j - 1)) in
    let short : length p ≤ 8 = length_residue modulus (x_power (j - 1)) in
    four_word (number p) 0 0 0 (lt_of_lt_of_le (number_lt p) (pow_mono short)) (omega arith) (omega arith)
    (omega arith)

-- either of two words of bytes consists of bytes
cond_word : (b : Bool) (v w : List ℕ) → IsWord v → IsWord w → IsWord (cond b v w)
cond_word true v w hv hw = hv
cond_word false v w hv hw = hw

-- temp consists of bytes, if the previous word t does
temp_is : (nk i : ℕ) (t : List ℕ) → IsWord t → IsWord (temp nk i t)
unfolding temp
temp_is nk i t h =
    let first : List ℕ = xor_word (sub_word (rot_word t)) (rcon (i / nk)) in
    let rest : List ℕ = cond ((nk == 8) && (i % 8 == 4)) (sub_word t) t in
    cond_word (i % nk == 0) first rest
    (xor_word_is (sub_word (rot_word t)) (rcon (i / nk)) (sub_word_is (rot_word t) (rot_word_is t h))
    (rcon_is_word (i / nk)))
    (cond_word ((nk == 8) && (i % 8 == 4)) (sub_word t) t (sub_word_is t h) h)

-- past its fourth item, a list of at most four items reads 0, which is a byte
past_four : (xs : List ℕ) (r : ℕ) → 4 ≤ r → get_or (take 4 xs) r 0 < 256
past_four xs r l = rw (get_or_past (take 4 xs) r 0 (omega (arith, length-take {A = ℕ}))) (omega arith)

-- a word of a key of bytes consists of bytes
key_part_is : (key : List ℕ) (n : ℕ) → IsWord key → IsWord (take 4 (drop n key))
key_part_is key n h r =
    elim (cases_lt r 4) [
      | inl l ↦ rw (get_or-take 4 (drop n key) r 0 l, get_or-drop n key r 0) (h (n + r))
      | inr l ↦ past_four (drop n key) r l
    ]

-- the next word of the schedule consists of bytes
next_is : (key : List ℕ) (ws : List (List ℕ)) (i : ℕ) → IsWord key → AreWords ws → IsWord (next_word key ws i)
unfolding next_word
next_is key ws i hk hw =
    let first : List ℕ = take 4 (drop (4 * i) key) in
    let rest : List ℕ = xor_word (get_or ws (i - key_words key) [])
    (temp (key_words key) i (get_or ws (i - 1) [])) in
    cond_word (nat_lt i (key_words key)) first rest (key_part_is key (4 * i) hk)
    (xor_word_is (get_or ws (i - key_words key) []) (temp (key_words key) i (get_or ws (i - 1) []))
    (hw (i - key_words key))
    (temp_is (key_words key) i (get_or ws (i - 1) []) (hw (i - 1))))

-- if words consist of bytes, and one more does, all of them do
push_words : (ws : List (List ℕ)) (w : List ℕ) → AreWords ws → IsWord w → AreWords (ws ++ w ∷ [])
push_words [] w h hw zero = hw
push_words [] w h hw (suc k) = nil_word
push_words (v ∷ ws) w h hw zero = h 0
push_words (v ∷ ws) w h hw (suc k) = push_words ws w (λ i. h (suc i)) hw k

-- the words of the schedule consist of bytes
pub words_are : (key : List ℕ) (n : ℕ) → IsWord key → AreWords (words key n)
unfolding words
words_are key zero h k = nil_word
words_are key (suc n) h k =
    push_words (words key n) (next_word key (words key n) n) (words_are key n h)
    (next_is key (words key n) n h (words_are key n h)) k

-- ---- rounds
pub rounds_block : (ws : List (List ℕ)) (n : ℕ) (b : List ℕ) → AreWords ws → IsBlock b
    → IsBlock (rounds ws n b)
unfolding rounds
rounds_block ws zero b hw h = add_block ws 0 b hw h
rounds_block ws (suc n) b hw h =
    add_block ws (suc n) (mix_columns (shift_rows (sub_bytes (rounds ws n b)))) hw
    (mix_block (shift_rows (sub_bytes (rounds ws n b))))

-- if SubBytes and ShiftRows take two blocks to one, the blocks are equal
same_before_shift : (s t : List ℕ) → IsBlock s → IsBlock t
    → shift_rows (sub_bytes s) ≡ shift_rows (sub_bytes t) → s ≡ t
same_before_shift s t hs ht e =
    sym (unsub_sub s hs) ∙ ap unsub
    (sym (unshift_shift (sub_bytes s) (sub_block s hs)) ∙ ap unshift e
    ∙ unshift_shift (sub_bytes t) (sub_block t ht))
    ∙ unsub_sub t ht

-- if AddRoundKey takes two blocks to one, the blocks are equal
same_before_add : (ws : List (List ℕ)) (n : ℕ) (s t : List ℕ) → length s ≡ 16 → length t ≡ 16
    → add_round_key ws n s ≡ add_round_key ws n t → s ≡ t
same_before_add ws n s t hs ht e = sym (add_twice ws n s hs) ∙ ap (add_round_key ws n) e ∙ add_twice ws n t ht

-- if n rounds take two blocks to one, the blocks are equal
pub rounds_same : (ws : List (List ℕ)) (n : ℕ) (b d : List ℕ) → AreWords ws → IsBlock b → IsBlock d
    → rounds ws n b ≡ rounds ws n d → b ≡ d
unfolding rounds
rounds_same ws zero b d hw hb hd e = same_before_add ws 0 b d hb.length_is hd.length_is e
rounds_same ws (suc n) b d hw hb hd e =
    let s : List ℕ = rounds ws n b in
    let t : List ℕ = rounds ws n d in
    let sb : IsBlock s = rounds_block ws n b hw hb in
    let tb : IsBlock t = rounds_block ws n d hw hd in
    let s2 : List ℕ = shift_rows (sub_bytes s) in
    let t2 : List ℕ = shift_rows (sub_bytes t) in
    let sb2 : IsBlock s2 = shift_block (sub_bytes s) (sub_block s sb) in
    let tb2 : IsBlock t2 = shift_block (sub_bytes t) (sub_block t tb) in
    let mixed = same_before_add ws (suc n) (mix_columns s2) (mix_columns t2) (mix_block s2).length_is
    (mix_block t2).length_is e in
    rounds_same ws n b d hw hb hd
    (same_before_shift s t sb tb (sym (unmix_mix_block s2 sb2) ∙ ap inverse_mix_columns mixed ∙ unmix_mix_block t2 tb2))

-- the block that n rounds take to c
unrounds : List (List ℕ) → ℕ → List ℕ → List ℕ
unrounds ws zero c = add_round_key ws 0 c
unrounds ws (suc n) c = unrounds ws n (unsub (unshift (inverse_mix_columns (add_round_key ws (suc n) c))))

-- `unrounds` gives a block
unrounds_block : (ws : List (List ℕ)) (n : ℕ) (c : List ℕ) → AreWords ws → IsBlock c
    → IsBlock (unrounds ws n c)
unfolding unrounds
unrounds_block ws zero c hw h = add_block ws 0 c hw h
unrounds_block ws (suc n) c hw h =
    let m : List ℕ = inverse_mix_columns (add_round_key ws (suc n) c) in
    unrounds_block ws n (unsub (unshift m)) hw
    (unsub_block (unshift m) (unshift_block m (unmix_block (add_round_key ws (suc n) c))))

-- n rounds take `unrounds` of a block to the block
rounds_unrounds : (ws : List (List ℕ)) (n : ℕ) (c : List ℕ) → AreWords ws → IsBlock c
    → rounds ws n (unrounds ws n c) ≡ c
unfolding rounds unrounds
rounds_unrounds ws zero c hw h = add_twice ws 0 c h.length_is
rounds_unrounds ws (suc n) c hw h =
    let a : List ℕ = add_round_key ws (suc n) c in
    let ab : IsBlock a = add_block ws (suc n) c hw h in
    let m : List ℕ = inverse_mix_columns a in
    let mb : IsBlock m = unmix_block a in
    let u : List ℕ = unshift m in
    let ub : IsBlock u = unshift_block m mb in
    ap (add_round_key ws (suc n)) (
    ap mix_columns (ap shift_rows
    (ap sub_bytes (rounds_unrounds ws n (unsub u) hw (unsub_block u ub)) ∙ sub_unsub u ub)
    ∙ shift_unshift m mb)
    ∙ mix_unmix_block a ab)
    ∙ add_twice ws (suc n) c h.length_is

-- ---- the cipher
pub cipher_block : (key b : List ℕ) → IsKey key → IsBlock b → IsBlock (cipher key b)
unfolding cipher
cipher_block key b k h =
    let ws : List (List ℕ) = schedule key in
    let hw : AreWords ws = words_are key (4 * (round_count key + 1)) k.bytes in
    let s : List ℕ = rounds ws (round_count key - 1) b in
    let sb : IsBlock s = rounds_block ws (round_count key - 1) b hw h in
    add_block ws (round_count key) (shift_rows (sub_bytes s)) hw (shift_block (sub_bytes s) (sub_block s sb))

-- if the cipher takes two blocks to one, the blocks are equal
pub cipher_same : (key b d : List ℕ) → IsKey key → IsBlock b → IsBlock d → cipher key b ≡ cipher key d → b ≡ d
unfolding cipher
cipher_same key b d k hb hd e =
    let ws : List (List ℕ) = schedule key in
    let hw : AreWords ws = words_are key (4 * (round_count key + 1)) k.bytes in
    let n : ℕ = round_count key - 1 in
    let s : List ℕ = rounds ws n b in
    let t : List ℕ = rounds ws n d in
    let sb : IsBlock s = rounds_block ws n b hw hb in
    let tb : IsBlock t = rounds_block ws n d hw hd in
    rounds_same ws n b d hw hb hd
    (same_before_shift s t sb tb
    (same_before_add ws (round_count key) (shift_rows (sub_bytes s)) (shift_rows (sub_bytes t))
    (shift_block (sub_bytes s) (sub_block s sb)).length_is
    (shift_block (sub_bytes t) (sub_block t tb)).length_is e))

-- each block is the cipher of some block
pub cipher_onto : (key c : List ℕ) → IsKey key → IsBlock c → (b : List ℕ) × IsBlock b × (cipher key b ≡ c)
unfolding cipher
cipher_onto key c k h =
    let ws : List (List ℕ) = schedule key in
    let hw : AreWords ws = words_are key (4 * (round_count key + 1)) k.bytes in
    let n : ℕ = round_count key - 1 in
    let a : List ℕ = add_round_key ws (round_count key) c in
    let ab : IsBlock a = add_block ws (round_count key) c hw h in
    let u : List ℕ = unshift a in
    let ub : IsBlock u = unshift_block a ab in
    let s : List ℕ = unsub u in
    let sb : IsBlock s = unsub_block u ub in (
      unrounds ws n s,
      unrounds_block ws n s hw sb,
      ap (add_round_key ws (round_count key))
          (ap shift_rows (ap sub_bytes (rounds_unrounds ws n s hw sb) ∙ sub_unsub u ub) ∙ shift_unshift a ab)
          ∙ add_twice ws (round_count key) c h.length_is,
    )

-- the law `IsPermutation`
pub is_permutation : IsPermutation
is_permutation key k = (
  λ b h. cipher_block key b k h,
  λ b d hb hd e. cipher_same key b d k hb hd e,
  λ c h.
      cipher_onto key c k h,
)
