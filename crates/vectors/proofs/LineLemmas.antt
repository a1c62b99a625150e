-- Laws of the trims, and of the first line.
use Rattle.std.proofs.Common.{◌≡◌, ◌≢◌, ℕ, zero, suc, ◌+◌, ◌-◌, ◌<◌, ◌≤◌, Bool, true, false, eqb, nat_lt}
use Rattle.std.proofs.Common.{List, [], ◌∷◌, length, take, drop, get_or, refl, sym, ap, ◌∙◌, arith, map}
use Rattle.std.proofs.lemmas.Grind.{common_steps}
use Rattle.std.specs.List.{slice_split, position_or_len, before_first, after_first, All}
use Rattle.std.specs.Prelude.{position, Option, Some, None}
use Rattle.std.specs.Str.Lines.{lines, lines_of_parts, strip_carriage_return}
use Rattle.std.proofs.lemmas.List.Sums.{fails_before_first, position_or_len_is}
use Rattle.memchr.specs.Find.{IsFirstByte, is_byte}
use Rattle.std.proofs.lemmas.List.Splits.{slice_split_first, slice_split_none, length-slice_split}
use Rattle.vectors.specs.Lines.{before_trimmed, trim_end, lines_of}

-- a space at the end is trimmed
pub trim_last : (xs : List ℕ) (n : ℕ) → length xs ≡ suc n → get_or xs n 0 ≡ 32
    → trim_end (take n xs) ≡ trim_end xs
trim_last [] n e h = absurd cc
trim_last (b ∷ []) zero e h = let is : b ≡ 32 = h in rw is refl
trim_last (b ∷ []) (suc n) e h = absurd (omega arith)
trim_last (b ∷ c ∷ cs) zero e h = absurd (omega arith)
trim_last (b ∷ c ∷ cs) (suc n) e h = ap (before_trimmed b) (trim_last (c ∷ cs) n (omega arith) h)

-- if the last byte is not a space, nothing is trimmed
pub trim_none : (xs : List ℕ) (n : ℕ) → length xs ≡ suc n → get_or xs n 0 ≢ 32 → trim_end xs ≡ xs
trim_none [] n e h = absurd cc
trim_none (b ∷ []) zero e h = grind (arith, common_steps)
trim_none (b ∷ []) (suc n) e h = absurd (omega arith)
trim_none (b ∷ c ∷ cs) zero e h = absurd (omega arith)
trim_none (b ∷ c ∷ cs) (suc n) e h = ap (before_trimmed b) (trim_none (c ∷ cs) n (omega arith) h)

-- whether a byte is a line feed
abbrev is_lf : ℕ → Bool
is_lf b = eqb b 10

-- a truth value that isn't true is false
not_true : (b : Bool) → (b ≡ true → ⊥) → b ≡ false
not_true true h = absurd (h refl)
not_true false h = refl

-- the result of a search for the first byte that is this one is its position
pub first_byte : (byte : ℕ) (bytes : List ℕ) (r : Option ℕ) → IsFirstByte (is_byte byte) bytes r
    → r ≡ position (is_byte byte) bytes
first_byte byte bytes None h =
    let at = position_or_len_is (is_byte byte) bytes (length bytes) 0 (omega arith)
    (λ k l. not_true (is_byte byte (get_or bytes k 0)) (h k (omega arith) l)) (λ l. absurd (omega (arith, l))) in
    let past : nat_lt (position_or_len (is_byte byte) bytes) (length bytes) ≡ false =
    grind (arith, common_steps, at) in
    rw past refl
first_byte byte bytes (Some n) h =
    let at = position_or_len_is (is_byte byte) bytes n 0 (omega (arith, h.0.high))
    (λ k l. not_true (is_byte byte (get_or bytes k 0)) (h.0.before k (omega arith) l)) (λ l. h.1) in
    let within : nat_lt (position_or_len (is_byte byte) bytes) (length bytes) ≡ true =
    grind (arith, common_steps, at, h.0.high) in
    rw (within, at) refl

-- the first of several parts is a line
parts_cons : (x : List ℕ) (parts : List (List ℕ)) → 0 < length parts
    → lines_of_parts (x ∷ parts) ≡ strip_carriage_return x ∷ lines_of_parts parts
parts_cons x [] h = absurd (omega arith)
parts_cons x (y ∷ more) h = refl

-- if there is a line feed, the lines are the part before it, without its CR, and the lines of the bytes after it
pub lines_at : (bs : List ℕ) → position_or_len is_lf bs < length bs
    → lines bs ≡ strip_carriage_return (before_first is_lf bs) ∷ lines (after_first is_lf bs)
lines_at bs h =
    ap lines_of_parts (slice_split_first is_lf bs 0 h)
    ∙ parts_cons (before_first is_lf bs) (slice_split is_lf (after_first is_lf bs))
    (omega (arith, length-slice_split is_lf (after_first is_lf bs)))

-- if `position_or_len` is at least the length, no byte is a line feed
none_passes : (bs : List ℕ) → length bs ≤ position_or_len is_lf bs → All (λ b. is_lf b ≡ false) bs
none_passes bs h k d lt = fails_before_first is_lf bs k d (omega arith)

-- a number above 0 is not 0
eqb_suc : (n : ℕ) → eqb (suc n) 0 ≡ false
eqb_suc n = grind arith

-- if the only part is not empty, it is the only line
one_part : (bs : List ℕ) → bs ≢ [] → lines_of_parts (bs ∷ []) ≡ bs ∷ []
one_part [] h = absurd (h refl)
one_part (b ∷ bs) h = rw (eqb_suc (length bs)) refl

-- without a line feed, the bytes are one line
lines_none : (bs : List ℕ) → bs ≢ [] → length bs ≤ position_or_len is_lf bs → lines bs ≡ bs ∷ []
lines_none bs h e = ap lines_of_parts (slice_split_none is_lf bs (none_passes bs e)) ∙ one_part bs h

-- if a line feed is first found at i, `position_or_len` is i, below the length
some_place : (bs : List ℕ) (i : ℕ) → Some i ≡ position is_lf bs
    → (position_or_len is_lf bs < length bs) × (i ≡ position_or_len is_lf bs)
some_place bs i e = grind (arith, common_steps)

-- if no line feed is found, `position_or_len` is at least the length
no_place : (bs : List ℕ) → None ≡ position is_lf bs → length bs ≤ position_or_len is_lf bs
no_place bs e = grind (arith, common_steps)

-- the first `length bs - k` of the bytes after the first k are all of them
behind : (bs : List ℕ) (k : ℕ) → take (length bs - k) (drop k bs) ≡ drop k bs
behind bs k = grind (arith, common_steps)

-- the lines of bytes with a line feed at i
lines_some : (bs : List ℕ) (i : ℕ) → Some i ≡ position is_lf bs
    → lines bs ≡ strip_carriage_return (take i bs) ∷ lines (take (length bs - (i + 1)) (drop (i + 1) bs))
lines_some bs i e =
    let at = some_place bs i e in
    lines_at bs at.0
    ∙ ap (λ k. strip_carriage_return (take k bs) ∷ lines (drop (k + 1) bs)) (sym at.1)
    ∙ ap (λ (rest : List ℕ). strip_carriage_return (take i bs) ∷ lines rest) (sym (behind bs (i + 1)))

-- there is no line after the last byte
no_lines : (bs : List ℕ) → lines (take (length bs - length bs) (drop (length bs) bs)) ≡ []
no_lines bs = ap (λ (rest : List ℕ). lines rest) (behind bs (length bs) ∙ nothing bs) where
  nothing : (xs : List ℕ) → drop (length xs) xs ≡ []
  nothing xs = grind (arith, common_steps)

-- the first line of a file, and the others
pub first_is : (bs : List ℕ) (i : ℕ) (line : List ℕ) → Some i ≡ position is_lf bs
    → line ≡ trim_end (strip_carriage_return (take i bs))
    → lines_of bs ≡ line ∷ lines_of (take (length bs - (i + 1)) (drop (i + 1) bs))
unfolding lines_of
first_is bs i line e is =
    ap (map trim_end) (lines_some bs i e)
    ∙ ap (λ (x : List ℕ). x ∷ map trim_end (lines (take (length bs - (i + 1)) (drop (i + 1) bs)))) (sym is)

-- the only line of a file without a line feed
pub only_is : (bs line : List ℕ) → bs ≢ [] → None ≡ position is_lf bs → line ≡ trim_end bs
    → lines_of bs ≡ line ∷ lines_of (take (length bs - length bs) (drop (length bs) bs))
unfolding lines_of
only_is bs line h e is =
    ap (map trim_end) (lines_none bs h (no_place bs e))
    ∙ ap (λ (x : List ℕ). x ∷ []) (sym is)
    ∙ ap (λ (ls : List (List ℕ)). line ∷ map trim_end ls) (sym (no_lines bs))

-- an empty file has no lines
pub lines_nil : lines_of [] ≡ []
unfolding lines_of
lines_nil = refl
