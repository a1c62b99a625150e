-- The rounds in halves are the rounds of the standard.
use Rattle.std.proofs.Common.{◌≡◌, ℕ, ◌+◌, List, [], ◌∷◌, length, refl, ap, sym, ◌∙◌, add-one}
use Rattle.chacha.specs.Block.{add_xor_rotate, quarter_round, column_round, diagonal_round, double_rounds}
use Rattle.chacha.specs.Code.Halves.{half_columns, half_diagonals}
use Rattle.chacha.proofs.ByRows.{sixteen_items}
use Rattle.chacha.proofs.Lengths.{length-column_round, length-double_rounds}

-- both halves of the column quarter rounds, one after the other, are a round of the columns, on sixteen words
columns_of : (a0 a1 a2 a3 b0 b1 b2 b3 c0 c1 c2 c3 d0 d1 d2 d3 : ℕ)
    → half_columns 8 7 (half_columns 16 12
    (a0 ∷ a1 ∷ a2 ∷ a3 ∷ b0 ∷ b1 ∷ b2 ∷ b3 ∷ c0 ∷ c1 ∷ c2 ∷ c3 ∷ d0 ∷ d1 ∷ d2 ∷ d3 ∷ []))
    ≡ column_round (a0 ∷ a1 ∷ a2 ∷ a3 ∷ b0 ∷ b1 ∷ b2 ∷ b3 ∷ c0 ∷ c1 ∷ c2 ∷ c3 ∷ d0 ∷ d1 ∷ d2 ∷ d3 ∷ [])
unfolding half_columns column_round quarter_round add_xor_rotate
columns_of a0 a1 a2 a3 b0 b1 b2 b3 c0 c1 c2 c3 d0 d1 d2 d3 = refl

-- both halves of the diagonal quarter rounds, one after the other, are a round of the diagonals, on sixteen words
diagonals_of : (a0 a1 a2 a3 b0 b1 b2 b3 c0 c1 c2 c3 d0 d1 d2 d3 : ℕ)
    → half_diagonals 8 7 (half_diagonals 16 12
    (a0 ∷ a1 ∷ a2 ∷ a3 ∷ b0 ∷ b1 ∷ b2 ∷ b3 ∷ c0 ∷ c1 ∷ c2 ∷ c3 ∷ d0 ∷ d1 ∷ d2 ∷ d3 ∷ []))
    ≡ diagonal_round (a0 ∷ a1 ∷ a2 ∷ a3 ∷ b0 ∷ b1 ∷ b2 ∷ b3 ∷ c0 ∷ c1 ∷ c2 ∷ c3 ∷ d0 ∷ d1 ∷ d2 ∷ d3 ∷ [])
unfolding half_diagonals diagonal_round quarter_round add_xor_rotate
diagonals_of a0 a1 a2 a3 b0 b1 b2 b3 c0 c1 c2 c3 d0 d1 d2 d3 = refl

-- both halves of the column quarter rounds are a round of the columns of every state
columns_in_halves : (s : List ℕ) → length s ≡ 16 → half_columns 8 7 (half_columns 16 12 s) ≡ column_round s
columns_in_halves s long =
    ap (λ t. half_columns 8 7 (half_columns 16 12 t)) (sym (sixteen_items s long))
    ∙ columns_of _ _ _ _ _ _ _ _ _ _ _ _ _ _ _ _
    ∙ ap column_round (sixteen_items s long)

-- both halves of the diagonal quarter rounds are a round of the diagonals of every state
diagonals_in_halves : (s : List ℕ) → length s ≡ 16
    → half_diagonals 8 7 (half_diagonals 16 12 s) ≡ diagonal_round s
diagonals_in_halves s long =
    ap (λ t. half_diagonals 8 7 (half_diagonals 16 12 t)) (sym (sixteen_items s long))
    ∙ diagonals_of _ _ _ _ _ _ _ _ _ _ _ _ _ _ _ _
    ∙ ap diagonal_round (sixteen_items s long)

-- the four halves, one after the other, are a double round
double_round_in_halves : (s : List ℕ) → length s ≡ 16
    → half_diagonals 8 7 (half_diagonals 16 12 (half_columns 8 7 (half_columns 16 12 s)))
    ≡ diagonal_round (column_round s)
double_round_in_halves s long =
    ap (λ t. half_diagonals 8 7 (half_diagonals 16 12 t)) (columns_in_halves s long)
    ∙ diagonals_in_halves (column_round s) (length-column_round s ∙ long)

-- if a state was after k double rounds, it is after k + 1 of them when it has undergone the four halves
pub next_double_round : (k : ℕ) (start was a b c now : List ℕ) → length start ≡ 16 → was ≡ double_rounds k start
    → a ≡ half_columns 16 12 was → b ≡ half_columns 8 7 a → c ≡ half_diagonals 16 12 b → now ≡ half_diagonals 8 7 c
    → now ≡ double_rounds (k + 1) start
unfolding double_rounds
next_double_round k start was a b c now long held e f g h =
    rw add-one
    (h ∙ ap (half_diagonals 8 7) (g ∙ ap (half_diagonals 16 12) (f ∙ ap (half_columns 8 7) (e ∙ ap (half_columns 16 12) held)))
    ∙ double_round_in_halves (double_rounds k start) (length-double_rounds k start ∙ long))
