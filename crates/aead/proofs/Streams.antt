-- The first block of GCM's mask.
use Rattle.std.proofs.Common.{◌≡◌, ℕ, ◌+◌, ◌^◌, ◌%◌, List, [], ◌∷◌, ◌++◌, length, ap₂}
use Rattle.std.proofs.lemmas.List.{take_at, drop_at}
use Rattle.std.specs.Int.{bytes_high_first}
use Rattle.octets.specs.Bytes.{be}
use Rattle.aes.specs.Counters.{up_be}
use Rattle.aead.specs.Sealing.{j0}

-- the first counter block of GCM's mask is the nonce and a counter of 2
pub first_block : (nonce : List ℕ) → length nonce ≡ 12 → up_be (j0 nonce) 1 ≡ nonce ++ 0 ∷ 0 ∷ 0 ∷ 2 ∷ []
unfolding up_be j0 be
first_block nonce h =
    ap₂ (λ a b. a ++ bytes_high_first 4 ((be b + 1) % 2 ^ 32))
    (take_at nonce (0 ∷ 0 ∷ 0 ∷ 1 ∷ []) 12 h) (drop_at nonce (0 ∷ 0 ∷ 0 ∷ 1 ∷ []) 12 h)
