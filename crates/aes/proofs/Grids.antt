-- Grids, place by place.
use Rattle.std.proofs.Common.{◌≡◌, ℕ, ◌/◌, ◌%◌, ◌<◌, List, get_or, length, ap, arith, zero-add}
use Rattle.std.proofs.lemmas.List.FromFn.{fill_by_all, get_or-map-range_with_len}
use Rattle.aes.specs.Cipher.{at, grid}

-- a list of 16 bytes is the grid whose bytes it has
pub grid_is : (f : ℕ → ℕ → ℕ) (s : List ℕ) → length s ≡ 16
    → ((k : ℕ) → k < 16 → get_or s k 0 ≡ f (k % 4) (k / 4)) → s ≡ grid f
grid_is f s long same = fill_by_all (λ i. f (i % 4) (i / 4)) s 16 0 long same

-- byte p of a grid is that of its row and column
pub byte_grid : (f : ℕ → ℕ → ℕ) (p : ℕ) → p < 16 → get_or (grid f) p 0 ≡ f (p % 4) (p / 4)
byte_grid f p h = get_or-map-range_with_len (λ i. f (i % 4) (i / 4)) 0 16 p p 0 h (zero-add p)

-- the byte in row p mod 4 of column p / 4 is byte p
pub at_byte : (s : List ℕ) (p : ℕ) → at s (p % 4) (p / 4) ≡ get_or s p 0
at_byte s p = ap (λ i. get_or s i 0) (omega arith)
