-- A state as four rows, whose columns are lanes.
use Rattle.std.proofs.Common.{◌≡◌, ℕ, zero, suc, ◌+◌, ◌-◌, ◌*◌, ◌/◌, ◌%◌, ◌^◌, ◌<◌, ◌≤◌, refl, sym, ap, ap₂, ◌∙◌, arith}
use Rattle.std.proofs.Common.{List, [], ◌∷◌, ◌++◌, length, get_or, set, take, drop, inl, inr}
use Rattle.std.proofs.lemmas.List.{take_all, get_or-take, get_or-drop, ext_get_or, get_or_append_left, get_or-append_right, length-append}
use Rattle.std.proofs.Math.Seq.{take-add}
use Rattle.std.proofs.lemmas.Bool.{cases_lt}
use Rattle.chacha.specs.Block.{add_xor_rotate, double_rounds}
use Rattle.chacha.specs.Block.{added, serialized, initial_state, block}
use Rattle.chacha.specs.Stream.{key_stream_byte}
use Rattle.chacha.specs.Code.Halves.{half_quarter, half_columns, half_diagonals}
use Rattle.chacha.specs.Code.Lanes.{lane}
use Rattle.chacha.specs.Code.Rows.{four_from, read_by_rows, state_in, IsKeyStream}
use Rattle.chacha.proofs.Words.{four_bytes, length-put, take-put, serialized-append}
use Rattle.chacha.proofs.Lengths.{length-block, length-initial_state}
use Rattle.chacha.proofs.Masking.{block_bytes}
use Rattle.chacha.proofs.SideBySide.{length-lane, get_or-lane, lane_block, lane_begun}

-- a list of four items is the list of its items 0 to 3
pub four_items : (v : List ℕ) → length v ≡ 4
    → v ≡ get_or v 0 0 ∷ get_or v 1 0 ∷ get_or v 2 0 ∷ get_or v 3 0 ∷ []
four_items v h = sym (take_all 4 v (omega arith)) ∙ four_bytes v 0 (omega arith)

-- a list of sixteen items is the list of its items 0 to 15
pub sixteen_items : (v : List ℕ) → length v ≡ 16
    → get_or v 0 0 ∷ get_or v 1 0 ∷ get_or v 2 0 ∷ get_or v 3 0 ∷ get_or v 4 0 ∷ get_or v 5 0 ∷ get_or v 6 0
    ∷ get_or v 7 0 ∷ get_or v 8 0 ∷ get_or v 9 0 ∷ get_or v 10 0 ∷ get_or v 11 0 ∷ get_or v 12 0
    ∷ get_or v 13 0 ∷ get_or v 14 0 ∷ get_or v 15 0 ∷ []
    ≡ v
sixteen_items v h =
    sym (
    sym (take_all 16 v (omega arith)) ∙ take-add 12 4 v
    ∙ ap₂ (λ x y. x ++ y)
    (take-add 8 4 v ∙ ap₂ (λ x y. x ++ y)
    (take-add 4 4 v ∙ ap₂ (λ x y. x ++ y) (four_bytes v 0 (omega arith)) (four_bytes v 4 (omega arith)))
    (four_bytes v 8 (omega arith)))
    (four_bytes v 12 (omega arith))
    )

-- half of a round of the columns is half of a quarter round of each column
columns_apart : (n m a0 a1 a2 a3 b0 b1 b2 b3 c0 c1 c2 c3 d0 d1 d2 d3 : ℕ)
    → half_columns n m (a0 ∷ a1 ∷ a2 ∷ a3 ∷ b0 ∷ b1 ∷ b2 ∷ b3 ∷ c0 ∷ c1 ∷ c2 ∷ c3 ∷ d0 ∷ d1 ∷ d2 ∷ d3 ∷ [])
    ≡ get_or (half_quarter n m (a0 ∷ b0 ∷ c0 ∷ d0 ∷ [])) 0 0
    ∷ get_or (half_quarter n m (a1 ∷ b1 ∷ c1 ∷ d1 ∷ [])) 0 0
    ∷ get_or (half_quarter n m (a2 ∷ b2 ∷ c2 ∷ d2 ∷ [])) 0 0
    ∷ get_or (half_quarter n m (a3 ∷ b3 ∷ c3 ∷ d3 ∷ [])) 0 0
    ∷ get_or (half_quarter n m (a0 ∷ b0 ∷ c0 ∷ d0 ∷ [])) 1 0
    ∷ get_or (half_quarter n m (a1 ∷ b1 ∷ c1 ∷ d1 ∷ [])) 1 0
    ∷ get_or (half_quarter n m (a2 ∷ b2 ∷ c2 ∷ d2 ∷ [])) 1 0
    ∷ get_or (half_quarter n m (a3 ∷ b3 ∷ c3 ∷ d3 ∷ [])) 1 0
    ∷ get_or (half_quarter n m (a0 ∷ b0 ∷ c0 ∷ d0 ∷ [])) 2 0
    ∷ get_or (half_quarter n m (a1 ∷ b1 ∷ c1 ∷ d1 ∷ [])) 2 0
    ∷ get_or (half_quarter n m (a2 ∷ b2 ∷ c2 ∷ d2 ∷ [])) 2 0
    ∷ get_or (half_quarter n m (a3 ∷ b3 ∷ c3 ∷ d3 ∷ [])) 2 0
    ∷ get_or (half_quarter n m (a0 ∷ b0 ∷ c0 ∷ d0 ∷ [])) 3 0
    ∷ get_or (half_quarter n m (a1 ∷ b1 ∷ c1 ∷ d1 ∷ [])) 3 0
    ∷ get_or (half_quarter n m (a2 ∷ b2 ∷ c2 ∷ d2 ∷ [])) 3 0
    ∷ get_or (half_quarter n m (a3 ∷ b3 ∷ c3 ∷ d3 ∷ [])) 3 0 ∷ []
unfolding half_columns half_quarter add_xor_rotate
columns_apart n m a0 a1 a2 a3 b0 b1 b2 b3 c0 c1 c2 c3 d0 d1 d2 d3 = refl

-- half of a round of the diagonals is half of a quarter round of each diagonal
diagonals_apart : (n m a0 a1 a2 a3 b0 b1 b2 b3 c0 c1 c2 c3 d0 d1 d2 d3 : ℕ)
    → half_diagonals n m (a0 ∷ a1 ∷ a2 ∷ a3 ∷ b0 ∷ b1 ∷ b2 ∷ b3 ∷ c0 ∷ c1 ∷ c2 ∷ c3 ∷ d0 ∷ d1 ∷ d2 ∷ d3 ∷ [])
    ≡ get_or (half_quarter n m (a0 ∷ b1 ∷ c2 ∷ d3 ∷ [])) 0 0
    ∷ get_or (half_quarter n m (a1 ∷ b2 ∷ c3 ∷ d0 ∷ [])) 0 0
    ∷ get_or (half_quarter n m (a2 ∷ b3 ∷ c0 ∷ d1 ∷ [])) 0 0
    ∷ get_or (half_quarter n m (a3 ∷ b0 ∷ c1 ∷ d2 ∷ [])) 0 0
    ∷ get_or (half_quarter n m (a3 ∷ b0 ∷ c1 ∷ d2 ∷ [])) 1 0
    ∷ get_or (half_quarter n m (a0 ∷ b1 ∷ c2 ∷ d3 ∷ [])) 1 0
    ∷ get_or (half_quarter n m (a1 ∷ b2 ∷ c3 ∷ d0 ∷ [])) 1 0
    ∷ get_or (half_quarter n m (a2 ∷ b3 ∷ c0 ∷ d1 ∷ [])) 1 0
    ∷ get_or (half_quarter n m (a2 ∷ b3 ∷ c0 ∷ d1 ∷ [])) 2 0
    ∷ get_or (half_quarter n m (a3 ∷ b0 ∷ c1 ∷ d2 ∷ [])) 2 0
    ∷ get_or (half_quarter n m (a0 ∷ b1 ∷ c2 ∷ d3 ∷ [])) 2 0
    ∷ get_or (half_quarter n m (a1 ∷ b2 ∷ c3 ∷ d0 ∷ [])) 2 0
    ∷ get_or (half_quarter n m (a1 ∷ b2 ∷ c3 ∷ d0 ∷ [])) 3 0
    ∷ get_or (half_quarter n m (a2 ∷ b3 ∷ c0 ∷ d1 ∷ [])) 3 0
    ∷ get_or (half_quarter n m (a3 ∷ b0 ∷ c1 ∷ d2 ∷ [])) 3 0
    ∷ get_or (half_quarter n m (a0 ∷ b1 ∷ c2 ∷ d3 ∷ [])) 3 0 ∷ []
unfolding half_diagonals half_quarter add_xor_rotate
diagonals_apart n m a0 a1 a2 a3 b0 b1 b2 b3 c0 c1 c2 c3 d0 d1 d2 d3 = refl

-- if each of four neighbouring lanes undergoes half of a quarter round, their state undergoes half of a round of the
-- columns
pub columns : (p q m : ℕ) (x y : List (List ℕ)) → length x ≡ 4
    → lane m y ≡ half_quarter p q (lane m x)
    → lane (m + 1) y ≡ half_quarter p q (lane (m + 1) x)
    → lane (m + 2) y ≡ half_quarter p q (lane (m + 2) x)
    → lane (m + 3) y ≡ half_quarter p q (lane (m + 3) x)
    → read_by_rows m y ≡ half_columns p q (read_by_rows m x)
unfolding read_by_rows
columns p q m x y long h0 h1 h2 h3 =
    let w : ℕ → ℕ → ℕ = λ r j. get_or (get_or x r []) j 0 in
    let column : (j : ℕ) → lane j x ≡ w 0 j ∷ w 1 j ∷ w 2 j ∷ w 3 j ∷ [] = λ j.
    four_items (lane j x) (length-lane j x ∙ long)
    ∙ (λ k. get_or-lane j x 0 k ∷ get_or-lane j x 1 k ∷ get_or-lane j x 2 k ∷ get_or-lane j x 3 k ∷ []) in
    let at : (j : ℕ) → lane j y ≡ half_quarter p q (lane j x) → (r : ℕ)
    → get_or (get_or y r []) j 0 ≡ get_or (half_quarter p q (w 0 j ∷ w 1 j ∷ w 2 j ∷ w 3 j ∷ [])) r 0 =
    λ j h r. sym (get_or-lane j y r)
    ∙ ap (λ s. get_or s r 0) (h ∙ ap (half_quarter p q) (column j)) in
    let at0 = at m h0 in
    let at1 = at (m + 1) h1 in
    let at2 = at (m + 2) h2 in
    let at3 = at (m + 3) h3 in
    (λ k. at0 0 k ∷ at1 0 k ∷ at2 0 k ∷ at3 0 k ∷ at0 1 k ∷ at1 1 k ∷ at2 1 k ∷ at3 1 k
    ∷ at0 2 k ∷ at1 2 k ∷ at2 2 k ∷ at3 2 k ∷ at0 3 k ∷ at1 3 k ∷ at2 3 k ∷ at3 3 k ∷ [])
    ∙ sym (columns_apart p q (w 0 m) (w 0 (m + 1)) (w 0 (m + 2)) (w 0 (m + 3)) (w 1 m) (w 1 (m + 1)) (w 1 (m + 2)) (w 1 (m + 3))
    (w 2 m) (w 2 (m + 1)) (w 2 (m + 2)) (w 2 (m + 3)) (w 3 m) (w 3 (m + 1)) (w 3 (m + 2)) (w 3 (m + 3)))

-- the four words of a row from place m on are moved by one, two or three lanes down
abbrev pub ByOne : ℕ → List ℕ → List ℕ → Type 0
ByOne m row moved = four_from m moved
    ≡ get_or row (m + 1) 0 ∷ get_or row (m + 2) 0 ∷ get_or row (m + 3) 0 ∷ get_or row m 0 ∷ []

abbrev pub ByTwo : ℕ → List ℕ → List ℕ → Type 0
ByTwo m row moved = four_from m moved
    ≡ get_or row (m + 2) 0 ∷ get_or row (m + 3) 0 ∷ get_or row m 0 ∷ get_or row (m + 1) 0 ∷ []

abbrev pub ByThree : ℕ → List ℕ → List ℕ → Type 0
ByThree m row moved = four_from m moved
    ≡ get_or row (m + 3) 0 ∷ get_or row m 0 ∷ get_or row (m + 1) 0 ∷ get_or row (m + 2) 0 ∷ []

-- if the rows are moved, each of four neighbouring lanes undergoes half of a quarter round, and the rows are moved back, the
-- state undergoes half of a round of the diagonals
pub diagonals : (p q m : ℕ) (x n : List (List ℕ)) (m0 m2 m3 y0 y2 y3 : List ℕ)
    → ByThree m (get_or x 0 []) m0 → ByOne m (get_or x 2 []) m2 → ByTwo m (get_or x 3 []) m3
    → lane m n ≡ half_quarter p q (lane m (m0 ∷ get_or x 1 [] ∷ m2 ∷ m3 ∷ []))
    → lane (m + 1) n ≡ half_quarter p q (lane (m + 1) (m0 ∷ get_or x 1 [] ∷ m2 ∷ m3 ∷ []))
    → lane (m + 2) n ≡ half_quarter p q (lane (m + 2) (m0 ∷ get_or x 1 [] ∷ m2 ∷ m3 ∷ []))
    → lane (m + 3) n ≡ half_quarter p q (lane (m + 3) (m0 ∷ get_or x 1 [] ∷ m2 ∷ m3 ∷ []))
    → ByOne m (get_or n 0 []) y0 → ByThree m (get_or n 2 []) y2 → ByTwo m (get_or n 3 []) y3
    → read_by_rows m (y0 ∷ get_or n 1 [] ∷ y2 ∷ y3 ∷ []) ≡ half_diagonals p q (read_by_rows m x)
unfolding read_by_rows lane
diagonals p q m x n m0 m2 m3 y0 y2 y3 e0 e2 e3 h0 h1 h2 h3 f0 f2 f3 =
    let w : ℕ → ℕ → ℕ = λ r j. get_or (get_or x r []) j 0 in
    let at0 : (r : ℕ) → get_or (get_or n r []) m 0
    ≡ get_or (half_quarter p q (w 0 (m + 3) ∷ w 1 m ∷ w 2 (m + 1) ∷ w 3 (m + 2) ∷ [])) r 0 =
    λ r. sym (get_or-lane m n r) ∙ ap (λ s. get_or s r 0) (h0
    ∙ ap (half_quarter p q)
    (λ k. get_or (e0 k) 0 0 ∷ w 1 m ∷ get_or (e2 k) 0 0 ∷ get_or (e3 k) 0 0 ∷ [])) in
    let at1 : (r : ℕ) → get_or (get_or n r []) (m + 1) 0
    ≡ get_or (half_quarter p q (w 0 m ∷ w 1 (m + 1) ∷ w 2 (m + 2) ∷ w 3 (m + 3) ∷ [])) r 0 =
    λ r. sym (get_or-lane (m + 1) n r) ∙ ap (λ s. get_or s r 0) (h1
    ∙ ap (half_quarter p q)
    (λ k. get_or (e0 k) 1 0 ∷ w 1 (m + 1) ∷ get_or (e2 k) 1 0 ∷ get_or (e3 k) 1 0 ∷ [])) in
    let at2 : (r : ℕ) → get_or (get_or n r []) (m + 2) 0
    ≡ get_or (half_quarter p q (w 0 (m + 1) ∷ w 1 (m + 2) ∷ w 2 (m + 3) ∷ w 3 m ∷ [])) r 0 =
    λ r. sym (get_or-lane (m + 2) n r) ∙ ap (λ s. get_or s r 0) (h2
    ∙ ap (half_quarter p q)
    (λ k. get_or (e0 k) 2 0 ∷ w 1 (m + 2) ∷ get_or (e2 k) 2 0 ∷ get_or (e3 k) 2 0 ∷ [])) in
    let at3 : (r : ℕ) → get_or (get_or n r []) (m + 3) 0
    ≡ get_or (half_quarter p q (w 0 (m + 2) ∷ w 1 (m + 3) ∷ w 2 m ∷ w 3 (m + 1) ∷ [])) r 0 =
    λ r. sym (get_or-lane (m + 3) n r) ∙ ap (λ s. get_or s r 0) (h3
    ∙ ap (half_quarter p q)
    (λ k. get_or (e0 k) 3 0 ∷ w 1 (m + 3) ∷ get_or (e2 k) 3 0 ∷ get_or (e3 k) 3 0 ∷ [])) in
    (λ k. f0 k ++ (four_from m (get_or n 1 []) ++ (f2 k ++ f3 k)))
    ∙ (λ k. at1 0 k ∷ at2 0 k ∷ at3 0 k ∷ at0 0 k ∷ at0 1 k ∷ at1 1 k ∷ at2 1 k ∷ at3 1 k
    ∷ at3 2 k ∷ at0 2 k ∷ at1 2 k ∷ at2 2 k ∷ at2 3 k ∷ at3 3 k ∷ at0 3 k ∷ at1 3 k ∷ [])
    ∙ sym (diagonals_apart p q (w 0 m) (w 0 (m + 1)) (w 0 (m + 2)) (w 0 (m + 3)) (w 1 m) (w 1 (m + 1)) (w 1 (m + 2)) (w 1 (m + 3))
    (w 2 m) (w 2 (m + 1)) (w 2 (m + 2)) (w 2 (m + 3)) (w 3 m) (w 3 (m + 1)) (w 3 (m + 2)) (w 3 (m + 3)))

-- the words of an initial state with another one for its counter are the initial state of that counter
pub with_counter : (key nonce v : List ℕ) (n m : ℕ) → length v ≡ 16 → v ≡ initial_state key n nonce
    → get_or v 0 0 ∷ get_or v 1 0 ∷ get_or v 2 0 ∷ get_or v 3 0 ∷ get_or v 4 0 ∷ get_or v 5 0 ∷ get_or v 6 0
    ∷ get_or v 7 0 ∷ get_or v 8 0 ∷ get_or v 9 0 ∷ get_or v 10 0 ∷ get_or v 11 0 ∷ m
    ∷ get_or v 13 0 ∷ get_or v 14 0 ∷ get_or v 15 0 ∷ []
    ≡ initial_state key m nonce
with_counter key nonce v n m long is =
    ap (λ (s : List ℕ). set s 12 m) (sixteen_items v long)
    ∙ lane_begun key nonce v (set v 12 m) m n is refl

-- what holds of state 0 holds of the only one
pub only_first : (P : ℕ → Type 0) → P 0 → (n : ℕ) → n < 1 → P n
only_first P p zero below = p
only_first P p (suc n) below = absurd (omega arith)

-- what holds of states 0 and 1 holds of both
pub both : (P : ℕ → Type 0) → P 0 → P 1 → (n : ℕ) → n < 2 → P n
both P p q zero below = p
both P p q (suc zero) below = q
both P p q (suc (suc n)) below = absurd (omega arith)

-- the rows of the words of an initial state
pub one_start : (key nonce w : List ℕ) (c : ℕ) → w ≡ initial_state key c nonce → (n : ℕ) → n < 1
    → state_in
    ((get_or w 0 0 ∷ get_or w 1 0 ∷ get_or w 2 0 ∷ get_or w 3 0 ∷ [])
    ∷ (get_or w 4 0 ∷ get_or w 5 0 ∷ get_or w 6 0 ∷ get_or w 7 0 ∷ [])
    ∷ (get_or w 8 0 ∷ get_or w 9 0 ∷ get_or w 10 0 ∷ get_or w 11 0 ∷ [])
    ∷ (get_or w 12 0 ∷ get_or w 13 0 ∷ get_or w 14 0 ∷ get_or w 15 0 ∷ []) ∷ []) n
    ≡ initial_state key (c + n) nonce
unfolding read_by_rows
one_start key nonce w c is zero below =
    let same : c ≡ c + 0 = omega arith in
    sixteen_items w (ap length is ∙ length-initial_state key c nonce) ∙ is ∙ ap (λ (m : ℕ). initial_state key m nonce) same
one_start key nonce w c is (suc n) below = absurd (omega arith)

-- the rows of the words of an initial state, beside those of the next counter
pub two_starts : (key nonce w : List ℕ) (c : ℕ) → w ≡ initial_state key c nonce → (n : ℕ) → n < 2
    → state_in
    ((get_or w 0 0 ∷ get_or w 1 0 ∷ get_or w 2 0 ∷ get_or w 3 0
    ∷ get_or w 0 0 ∷ get_or w 1 0 ∷ get_or w 2 0 ∷ get_or w 3 0 ∷ [])
    ∷ (get_or w 4 0 ∷ get_or w 5 0 ∷ get_or w 6 0 ∷ get_or w 7 0
    ∷ get_or w 4 0 ∷ get_or w 5 0 ∷ get_or w 6 0 ∷ get_or w 7 0 ∷ [])
    ∷ (get_or w 8 0 ∷ get_or w 9 0 ∷ get_or w 10 0 ∷ get_or w 11 0
    ∷ get_or w 8 0 ∷ get_or w 9 0 ∷ get_or w 10 0 ∷ get_or w 11 0 ∷ [])
    ∷ (get_or w 12 0 ∷ get_or w 13 0 ∷ get_or w 14 0 ∷ get_or w 15 0
    ∷ (c + 1) ∷ get_or w 13 0 ∷ get_or w 14 0 ∷ get_or w 15 0 ∷ []) ∷ []) n
    ≡ initial_state key (c + n) nonce
unfolding read_by_rows
two_starts key nonce w c is zero below =
    let same : c ≡ c + 0 = omega arith in
    sixteen_items w (ap length is ∙ length-initial_state key c nonce) ∙ is ∙ ap (λ (m : ℕ). initial_state key m nonce) same
two_starts key nonce w c is (suc zero) below =
    with_counter key nonce w c (c + 1) (ap length is ∙ length-initial_state key c nonce) is
two_starts key nonce w c is (suc (suc n)) below = absurd (omega arith)

-- if the states begin from those of consecutive counters, undergo ten double rounds, and are written with the start added, the
-- bytes are the key stream
pub blocks_put : (key nonce : List ℕ) (c count : ℕ) (out : List ℕ) (start rounds : ℕ → List ℕ) → length out ≡ 64 * count
    → ((n : ℕ) → n < count → start n ≡ initial_state key (c + n) nonce)
    → ((n : ℕ) → n < count → rounds n ≡ double_rounds 10 (start n))
    → ((n : ℕ) → n < count → take 64 (drop (64 * n) out) ≡ serialized (added (rounds n) (start n)))
    → IsKeyStream out key c nonce
unfolding key_stream_byte
blocks_put key nonce c count out start rounds long begins turned written i below =
    let n : ℕ = i / 64 in
    let r : ℕ = i % 64 in
    let l : n < count = omega (arith, below, long) in
    let place : i ≡ 64 * n + r = omega arith in
    let is_block : take 64 (drop (64 * n) out) ≡ block key (c + n) nonce =
    written n l ∙ lane_block key nonce (start n) (added (rounds n) (start n)) (rounds n) (c + n) (begins n l) (turned n l) refl in
    ap (λ (j : ℕ). get_or out j 0) place ∙ sym (get_or-drop (64 * n) out r 0)
    ∙ sym (get_or-take 64 (drop (64 * n) out) r 0 (omega arith))
    ∙ ap (λ b. get_or b r 0) is_block

-- if k blocks are the key stream, and the bytes after them from the counter c + k on, all are the key stream from the counter c on
pub stream_joined : (key nonce : List ℕ) (c k d : ℕ) (whole a b : List ℕ) → d ≡ c + k → whole ≡ a ++ b
    → length a ≡ 64 * k → IsKeyStream a key c nonce → IsKeyStream b key d nonce → IsKeyStream whole key c nonce
unfolding key_stream_byte
stream_joined key nonce c k d whole a b next is long front back i below =
    ap (λ l. get_or l i 0) is ∙ elim (cases_lt i (64 * k)) [
      | inl l ↦ get_or_append_left a b 0 i (omega (arith, l, long)) ∙ front i (omega (arith, l, long))
      | inr g ↦
          let counter : d + (i - 64 * k) / 64 ≡ c + i / 64 = omega (arith, g, next) in
          let place : (i - 64 * k) % 64 ≡ i % 64 = omega (arith, g) in
          get_or-append_right a b (64 * k) i 0 long g
          ∙ back (i - 64 * k) (omega (arith, g, long, below, ap length is, length-append a b))
          ∙ ap₂ (λ (n j : ℕ). get_or (block key n nonce) j 0) counter place
    ]

-- 64 bytes of the key stream from a counter on are the block of that counter
pub one_block : (key nonce : List ℕ) (c : ℕ) (out : List ℕ) → length out ≡ 64 → IsKeyStream out key c nonce
    → out ≡ block key c nonce
one_block key nonce c out long is =
    ext_get_or 0 out (block key c nonce) (long ∙ sym (length-block key c nonce))
    (λ i l. is i l ∙ sym (block_bytes key nonce c i (omega (arith, l, long))))

-- four neighbouring sums of the words of two rows of eight
pub four_sums : (m : ℕ) (a x start : List ℕ) → m + 4 ≤ 8
    → ((j : ℕ) → j < 8 → get_or a j 0 ≡ (get_or x j 0 + get_or start j 0) % 2 ^ 32)
    → four_from m a ≡ added (four_from m x) (four_from m start)
unfolding added
four_sums m a x start room sums = λ k.
    sums m (omega (arith, room)) k ∷ sums (m + 1) (omega (arith, room)) k ∷ sums (m + 2) (omega (arith, room)) k
    ∷ sums (m + 3) (omega (arith, room)) k ∷ []

-- if the sums of four rows from place m on are written, one row after the other, the sum of their state is written
pub sums_put : (m : ℕ) (x start : List (List ℕ)) (a b c d out : List ℕ)
    → a ≡ added (four_from m (get_or x 0 [])) (four_from m (get_or start 0 []))
    → b ≡ added (four_from m (get_or x 1 [])) (four_from m (get_or start 1 []))
    → c ≡ added (four_from m (get_or x 2 [])) (four_from m (get_or start 2 []))
    → d ≡ added (four_from m (get_or x 3 [])) (four_from m (get_or start 3 []))
    → out ≡ serialized (a ++ b) ++ serialized (c ++ d)
    → out ≡ serialized (added (read_by_rows m x) (read_by_rows m start))
unfolding added read_by_rows
sums_put m x start a b c d out is_a is_b is_c is_d is =
    is ∙ sym (serialized-append (a ++ b) (c ++ d))
    ∙ (λ k. serialized ((is_a k ++ is_b k) ++ (is_c k ++ is_d k)))

-- if sixteen bytes are put after those that are there, the output begins with all of them
pub put_more : (out bytes done now : List ℕ) (at : ℕ) → length out ≡ 64 → length bytes ≡ 16 → at + 16 ≤ 64
    → take at out ≡ done
    → now ≡ take at out ++ bytes ++ drop (at + length bytes) out
    → (length now ≡ 64) × (take (at + 16) now ≡ done ++ bytes)
put_more out bytes done now at long size room same is =
    let fits : at + length bytes ≤ length out = omega (arith, long, size, room) in (
      ap length is ∙ length-put out bytes at fits ∙ long,
      ap (take (at + 16)) is ∙ take-put out bytes at (at + 16) fits (omega (arith, size))
          ∙ ap (λ l. l ++ bytes) same,
    )
