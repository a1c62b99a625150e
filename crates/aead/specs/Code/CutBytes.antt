-- Bytes that are cut into pieces.
use Rattle.std.specs.Prelude.{◌≡◌, ℕ, List, length, map}
use Rattle.std.specs.List.{concat}
use Rattle.aead.specs.Cuts.{piece_lengths}

-- the pieces are the bytes, cut where the cuts say
pub record AreCut (bytes cuts : List ℕ) (pieces : List (List ℕ)) : Type 0 where
  pub joined : concat pieces ≡ bytes
  pub lengths : map length pieces ≡ piece_lengths (length bytes) 0 cuts
