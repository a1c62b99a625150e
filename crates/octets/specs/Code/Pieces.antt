-- A text that comes in pieces.
use Rattle.std.specs.Prelude.{◌≡◌, ℕ, ◌-◌, ◌*◌, ◌/◌, ◌%◌, List, length, take, drop, replicate}
use Rattle.octets.specs.declared.pieces.Pieces.{Pieces}

-- a buffer begins with the bytes of m after its last whole block
pub record KeepsRest (buffer : List ℕ) (used : ℕ) (m : List ℕ) : Type 0 where
  pub used_is : used ≡ length m % 16
  pub rest_is : take used buffer ≡ drop (length m / 16 * 16) m

-- p holds the text m under the key k: the core has absorbed the whole blocks of m, and the buffer holds the rest,
-- followed by zeros
pub record HoldsPieces {A : Type 0} (absorbed : A → List ℕ → List ℕ → Type 0) (p : Pieces A) (k : List ℕ)
    (m : List ℕ) : Type 0 where
  pub taken : absorbed p.core k (take (length m / 16 * 16) m)
  pub rest : KeepsRest p.buffer p.used m
  pub zeros : drop p.used p.buffer ≡ replicate (16 - p.used) 0
