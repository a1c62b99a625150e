-- The multiples of a key as plain numbers, for a caller that stores them.
use Rattle.std.specs.Prelude.{◌≡◌, ℕ, List, replicate}
use Rattle.octets.specs.Bits.{g}
use Rattle.gf128.specs.Code.Words.{AreMultiples, entry, first_tables, second_tables}
use Rattle.gf128.specs.declared.tables.PlainMultiples.{PlainMultiples}

-- the tables hold the multiples of the key
abbrev pub HasMultiples : PlainMultiples → List ℕ → Type 0
HasMultiples m key = AreMultiples (g key) (entry m.high) (entry m.low)

-- all zeros
abbrev pub no_multiples : PlainMultiples
no_multiples = record { high = replicate 16 (replicate 16 0); low = replicate 16 (replicate 16 0) }

-- the tables of 32 bytes are those of the multiples s and t side by side
pub record ArePaired (high : List (List ℕ)) (low : List (List ℕ)) (s : PlainMultiples) (t : PlainMultiples) : Type 0 where
  pub first_high : first_tables high ≡ s.high
  pub first_low : first_tables low ≡ s.low
  pub second_high : second_tables high ≡ t.high
  pub second_low : second_tables low ≡ t.low
