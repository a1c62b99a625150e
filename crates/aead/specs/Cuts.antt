-- A sealing that is cut into pieces.
use Rattle.std.specs.Prelude.{◌≡◌, ℕ, ◌-◌, ◌<◌, List, [], ◌∷◌, ◌++◌, length, map, if◌then◌else◌, nat_le}
use Rattle.std.specs.List.{concat}
use Rattle.aead.specs.Sealing.{Setting, Opened}

-- the cuts rise strictly, and the first of them is above `place`
abbrev pub Rise : ℕ → List ℕ → Type 0
Rise place [] = Unit {0}
Rise place (cut ∷ cuts) = (place < cut) × Rise cut cuts

-- the lengths of the pieces of n bytes from `place` on: one piece begins at `place`, and one at each cut that is at most n
abbrev pub piece_lengths : ℕ → ℕ → List ℕ → List ℕ
piece_lengths n place [] = (n - place) ∷ []
piece_lengths n place (cut ∷ cuts) =
    if nat_le cut n then (cut - place) ∷ piece_lengths n cut cuts else piece_lengths n place cuts

-- the pieces are the ciphertext of the text, cut where the cuts say, and then the tag; joined they are the sealing of the text
pub record IsCutSealing (s : Setting) (text cuts : List ℕ) (pieces : List (List ℕ)) : Type 0 where
  pub joined : Opened s (concat pieces) text
  pub lengths : map length pieces ≡ piece_lengths (length text) 0 cuts ++ 16 ∷ []
