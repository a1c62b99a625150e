-- A text whose whole blocks of 16 bytes are taken in one after the other.
use Rattle.std.specs.Prelude.{◌≡◌, ℕ, ◌-◌, ◌*◌, ◌/◌, ◌%◌, ◌≤◌, List, length, take, drop}

-- rest is what is left of a list of bytes after some whole blocks of 16
pub record IsEnd (rest all : List ℕ) : Type 0 where
  pub shorter : length rest ≤ length all
  pub whole : (length all - length rest) % 16 ≡ 0
  pub rest_is : rest ≡ drop (length all - length rest) all

-- the whole blocks at the front of a list of bytes
abbrev pub whole_blocks : List ℕ → List ℕ
whole_blocks x = take (length x / 16 * 16) x
