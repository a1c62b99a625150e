-- The words of a schedule.
use Rattle.std.proofs.Common.{◌≡◌, ℕ, zero, suc, ◌+◌, ◌-◌, ◌*◌, ◌/◌, ◌%◌, ◌<◌, ◌≤◌, cond, ◌==◌, ◌&&◌}
use Rattle.std.proofs.Common.{List, [], ◌∷◌, take, drop, get_or, length, inl}
use Rattle.std.proofs.Common.{inr, refl, sym, ap, ap₂, ◌∙◌, arith, lt-ltb, le-ltb, add-one}
use Rattle.std.proofs.lemmas.Bool.{cases_lt, and_parts, false_from_ne_true, eq-eqb, ne_eqb}
use Rattle.std.proofs.lemmas.Bool.{eqb-true}
use Rattle.std.proofs.lemmas.List.{get_or_append_left, get_or_push}
use Rattle.std.proofs.lemmas.List.{length_push}
use Rattle.aes.specs.Schedule.{xor_word, key_words, temp, next_word, words, sub_word, rot_word}
use Rattle.aes.specs.Schedule.{rcon, round_count, MeetsRecurrence}

-- `words key n` has n words
pub length_words : (key : List ℕ) (n : ℕ) → length (words key n) ≡ n
unfolding words
length_words key zero = refl
length_words key (suc n) =
    length_push (words key n) (next_word key (words key n) n) ∙ ap (λ x. x + 1) (length_words key n)
    ∙ add-one n

-- word k of the schedule
abbrev pub word : List ℕ → ℕ → List ℕ
word key k = next_word key (words key k) k

-- word k among the first n words is word k
pub words_at : (key : List ℕ) (n k : ℕ) → k < n → get_or (words key n) k [] ≡ word key k
unfolding words
words_at key zero k h = absurd (omega arith)
words_at key (suc n) k h =
    elim (cases_lt k n) [
      | inl l ↦
          get_or_append_left (words key n) (word key n ∷ []) [] k (omega (arith, length_words key n))
          ∙ words_at key n k l
      | inr g ↦
          let e : n ≡ k = omega arith in
          get_or_push (words key n) (word key n) [] k (length_words key n ∙ e) ∙ ap (word key) e
    ]

-- a word before word Nk is the key's
pub word_start : (key : List ℕ) (k : ℕ) → k < key_words key → word key k ≡ take 4 (drop (4 * k) key)
unfolding next_word
word_start key k h =
    ap (λ b. cond b (take 4 (drop (4 * k) key))
    (xor_word (get_or (words key k) (k - key_words key) [])
    (temp (key_words key) k (get_or (words key k) (k - 1) []))))
    (lt-ltb k (key_words key) h)

-- a word from word Nk on is the sum of the word Nk places back and temp
pub word_rest : (key : List ℕ) (k : ℕ) → key_words key ≤ k → 0 < key_words key
    → word key k ≡ xor_word (word key (k - key_words key)) (temp (key_words key) k (word key (k - 1)))
unfolding next_word
word_rest key k h some =
    ap (λ b. cond b (take 4 (drop (4 * k) key))
    (xor_word (get_or (words key k) (k - key_words key) [])
    (temp (key_words key) k (get_or (words key k) (k - 1) []))))
    (le-ltb k (key_words key) h)
    ∙ ap₂ (λ v w. xor_word v (temp (key_words key) k w))
    (words_at key k (k - key_words key) (omega arith)) (words_at key k (k - 1) (omega arith))

-- at i mod Nk = 0, `temp` is SubWord(RotWord(t)) plus the round constant
pub temp_first : (nk i : ℕ) (t : List ℕ) → i % nk ≡ 0
    → xor_word (sub_word (rot_word t)) (rcon (i / nk)) ≡ temp nk i t
unfolding temp
temp_first nk i t h = rw (eq-eqb (i % nk) 0 h) refl

-- at i mod 8 = 4, if Nk is 8 and i mod Nk is not 0, `temp` is SubWord(t)
pub temp_fourth : (nk i : ℕ) (t : List ℕ) → (i % nk ≡ 0 → ⊥) → nk ≡ 8 → i % 8 ≡ 4
    → sub_word t ≡ temp nk i t
unfolding temp
temp_fourth nk i t h e f = rw (ne_eqb (i % nk) 0 h, eq-eqb nk 8 e, eq-eqb (i % 8) 4 f) refl

-- at any other word, `temp` is t
pub temp_other : (nk i : ℕ) (t : List ℕ) → (i % nk ≡ 0 → ⊥) → (nk ≡ 8 → i % 8 ≡ 4 → ⊥) → t ≡ temp nk i t
unfolding temp
temp_other nk i t h no_fourth =
    rw (
      ne_eqb (i % nk) 0 h,
      false_from_ne_true ((nk == 8) && (i % 8 == 4))
          (λ e. let p = and_parts (nk == 8) (i % 8 == 4) e in
          no_fourth (eqb-true nk 8 p.0) (eqb-true (i % 8) 4 p.1)),
    ) refl

-- the law `MeetsRecurrence`
pub meets_recurrence : MeetsRecurrence
meets_recurrence key i some within = (
  λ h. words_at key (4 * (round_count key + 1)) i within ∙ word_start key i h,
  λ h.
      words_at key (4 * (round_count key + 1)) i within ∙ word_rest key i h some
      ∙ sym (ap₂ (λ v w. xor_word v (temp (key_words key) i w))
      (words_at key (4 * (round_count key + 1)) (i - key_words key) (omega arith))
      (words_at key (4 * (round_count key + 1)) (i - 1) (omega arith))),
)
