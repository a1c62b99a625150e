-- Columns as words of 32 bits: row 0 is the least significant byte.
use Rattle.std.specs.Prelude.{ℕ, List, map, flat_map}
use Rattle.std.specs.Int.{bytes_low_first}

-- the column that a word spells
unfoldable pub column_of : ℕ → List ℕ
column_of w = bytes_low_first 0 4 w

-- the columns that words spell, each one a word of the standard
abbrev pub columns_of : List ℕ → List (List ℕ)
columns_of ws = map column_of ws

-- the state whose columns the words spell
abbrev pub state_of : List ℕ → List ℕ
state_of ws = flat_map column_of ws
