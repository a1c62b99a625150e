-- Numbers that digits spell, and the parts between commas.
use Rattle.std.proofs.Common.{◌≡◌, ℕ, ◌+◌, ◌-◌, ◌*◌, ◌^◌, ◌<◌, ◌≤◌, Bool, true, false, cond, eqb, nat_lt}
use Rattle.std.proofs.Common.{List, [], ◌∷◌, ◌++◌, length, take, drop, get_or, map, Option, Some, None, refl}
use Rattle.std.proofs.Common.{sym, ap, ap₂, ◌∙◌, arith, take_all}
use Rattle.std.specs.Prelude.{position, ◌&&◌}
use Rattle.std.specs.List.{slice_split, position_or_len, list_all}
use Rattle.std.specs.Int.Digits.{number_from_digits, number_from_digits_after}
use Rattle.std.proofs.lemmas.Int.Digits.{number_more, number_after_append, number_after_ge}
use Rattle.std.proofs.lemmas.List.{take-map, get_or-map, length-map, map-append, take-append-drop}
use Rattle.std.proofs.lemmas.List.Folds.{list_all_at}
use Rattle.vectors.specs.Cuts.{is_digit, has_no_leading_zero, decimal_value, number_of}
use Rattle.std.proofs.lemmas.Grind.{common_steps}
use Rattle.std.proofs.lemmas.List.Sums.{fails_before_first}
use Rattle.std.proofs.lemmas.List.Splits.{slice_split_first, slice_split_none}

-- whether a byte is a comma
abbrev is_comma : ℕ → Bool
is_comma b = eqb b 44

-- if a comma is first found at i, `position_or_len` is i, below the length
some_place : (bs : List ℕ) (i : ℕ) → Some i ≡ position is_comma bs
    → (position_or_len is_comma bs < length bs) × (i ≡ position_or_len is_comma bs)
some_place bs i e = grind (arith, common_steps)

-- if no comma is found, `position_or_len` is at least the length
no_place : (bs : List ℕ) → None ≡ position is_comma bs → length bs ≤ position_or_len is_comma bs
no_place bs e = grind (arith, common_steps)

-- the first `length bs - k` of the bytes after the first k are all of them
behind : (bs : List ℕ) (k : ℕ) → take (length bs - k) (drop k bs) ≡ drop k bs
behind bs k = grind (arith, common_steps)

-- the parts of a text whose first comma is at i
pub parts_some : (bs : List ℕ) (i : ℕ) → Some i ≡ position is_comma bs
    → slice_split is_comma bs
    ≡ take i bs ∷ slice_split is_comma (take (length bs - (i + 1)) (drop (i + 1) bs))
parts_some bs i e =
    let at = some_place bs i e in
    slice_split_first is_comma bs 0 at.0
    ∙ ap (λ k. take k bs ∷ slice_split is_comma (drop (k + 1) bs)) (sym at.1)
    ∙ ap (λ (rest : List ℕ). take i bs ∷ slice_split is_comma rest) (sym (behind bs (i + 1)))

-- without a comma, the whole text is the only part
pub parts_none : (bs : List ℕ) → None ≡ position is_comma bs → slice_split is_comma bs ≡ bs ∷ []
parts_none bs e = slice_split_none is_comma bs
    (λ k d lt. fails_before_first is_comma bs k d (let l = no_place bs e in omega (arith, l)))

-- ---- numbers

-- the value of a decimal digit
abbrev digit : ℕ → ℕ
digit b = b - 48

-- the value of one more digit is ten times the value before, plus the digit's
pub value_more : (text : List ℕ) (i : ℕ) → i < length text
    → decimal_value (take (i + 1) text) ≡ decimal_value (take i text) * 10 + (get_or text i 0 - 48)
unfolding decimal_value
value_more text i l =
    ap (number_from_digits 10) (sym (take-map digit (i + 1) text))
    ∙ number_more 10 (map digit text) i (omega (arith, length-map text digit))
    ∙ ap₂ (λ a b. a * 10 + b) (ap (number_from_digits 10) (take-map digit i text))
    (get_or-map digit text i 0 0 l)

-- the value of the first digits is at most that of all digits
value_grows : (text : List ℕ) (i : ℕ) → decimal_value (take i text) ≤ decimal_value text
unfolding decimal_value
value_grows text i =
    let front : List ℕ = map digit (take i text) in
    let back : List ℕ = map digit (drop i text) in
    let whole : front ++ back ≡ map digit text =
    sym (map-append digit (take i text) (drop i text)) ∙ ap (map digit) (take-append-drop i text) in
    let sum : number_from_digits_after 10 (number_from_digits_after 10 0 front) back
    ≡ number_from_digits_after 10 0 (map digit text) =
    sym (number_after_append 10 0 front back) ∙ ap (number_from_digits_after 10 0) whole in
    omega (arith, number_after_ge 10 (number_from_digits_after 10 0 front) back (omega arith), sum)

-- an empty text, or one that begins with a zero, does not spell a number
pub none_zero : (text : List ℕ) → has_no_leading_zero text ≡ false → number_of text ≡ None
unfolding number_of
none_zero text h = rw h refl

-- if the second of two tests fails, the result is None
behind_test : (a b : Bool) (n : ℕ) → b ≡ false → cond {A = Option ℕ} (a && b) (Some n) None ≡ None
behind_test true b n h = rw h refl
behind_test false b n h = refl

-- a text with a byte that is not a digit does not spell a number
pub none_digit : (text : List ℕ) (i : ℕ) → i < length text → is_digit (get_or text i 0) ≡ false
    → number_of text ≡ None
unfolding number_of
none_digit text i l h =
    behind_test (has_no_leading_zero text) (list_all is_digit text && nat_lt (decimal_value text) (2 ^ 64))
    (decimal_value text)
    (rw (list_all_at is_digit text i 0 l h) refl)

-- a conjunction whose second part is false is false
both_fail : (a b : Bool) → b ≡ false → (a && b) ≡ false
both_fail true b h = h
both_fail false b h = refl

-- a conjunction of two true parts is true
pub both_pass : (a b : Bool) → a ≡ true → b ≡ true → (a && b) ≡ true
both_pass true b e f = f
both_pass false b e f = e

-- if n is at most m, the test whether m is less than n fails
no_less : (m n : ℕ) → n ≤ m → nat_lt m n ≡ false
no_less m n h = grind arith

-- a text whose first digits exceed 64 bits does not spell a number
pub none_large : (text : List ℕ) (i : ℕ) → 2 ^ 64 ≤ decimal_value (take i text) → number_of text ≡ None
unfolding number_of
none_large text i h =
    behind_test (has_no_leading_zero text) (list_all is_digit text && nat_lt (decimal_value text) (2 ^ 64))
    (decimal_value text)
    (both_fail (list_all is_digit text) (nat_lt (decimal_value text) (2 ^ 64))
    (no_less (decimal_value text) (2 ^ 64) (omega (arith, h, value_grows text i))))

-- if m is less than n, the test whether m is less than n passes
less : (m n : ℕ) → m < n → nat_lt m n ≡ true
less m n h = grind arith

-- digits without a leading zero, whose value fits in 64 bits, spell this value
pub some_number : (text : List ℕ) (i n : ℕ) → length text ≤ i → has_no_leading_zero text ≡ true
    → list_all is_digit (take i text) ≡ true → n ≡ decimal_value (take i text) → n < 2 ^ 64
    → Some n ≡ number_of text
unfolding number_of
some_number text i n l h d e small =
    let all : take i text ≡ text = take_all i text l in
    let value : n ≡ decimal_value text = e ∙ ap decimal_value all in
    rw (
      h,
      sym (ap (list_all is_digit) all)
          ∙ d,
      less (decimal_value text) (2 ^ 64) (omega (arith, value, small)),
    ) (ap (λ m. Some m) value)
