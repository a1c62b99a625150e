-- The rounds in halves, each step of all four quarter rounds after the other.
use Rattle.std.specs.Prelude.{ℕ, List}
use Rattle.chacha.specs.Block.{add_xor_rotate}

-- the half of the quarter round on four words that rotates by n and by m
unfoldable pub half_quarter : ℕ → ℕ → List ℕ → List ℕ
half_quarter n m s = add_xor_rotate 2 3 1 m (add_xor_rotate 0 1 3 n s)

-- the halves of the quarter rounds on the columns that rotate by n and by m
unfoldable pub half_columns : ℕ → ℕ → List ℕ → List ℕ
half_columns n m s =
    add_xor_rotate 11 15 7 m (add_xor_rotate 10 14 6 m (add_xor_rotate 9 13 5 m (add_xor_rotate 8 12 4 m
    (add_xor_rotate 3 7 15 n (add_xor_rotate 2 6 14 n (add_xor_rotate 1 5 13 n (add_xor_rotate 0 4 12 n s)))))))

-- the halves of the quarter rounds on the diagonals that rotate by n and by m
unfoldable pub half_diagonals : ℕ → ℕ → List ℕ → List ℕ
half_diagonals n m s =
    add_xor_rotate 9 14 4 m (add_xor_rotate 8 13 7 m (add_xor_rotate 11 12 6 m (add_xor_rotate 10 15 5 m
    (add_xor_rotate 3 4 14 n (add_xor_rotate 2 7 13 n (add_xor_rotate 1 6 12 n (add_xor_rotate 0 5 15 n s)))))))
