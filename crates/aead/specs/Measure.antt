-- The last bytes of the measured reading.
use Rattle.std.specs.Prelude.{◌-◌, List, ℕ, length, drop}

-- the last 16 bytes, or all bytes if there are fewer
abbrev pub last_16 : List ℕ → List ℕ
last_16 x = drop (length x - 16) x
