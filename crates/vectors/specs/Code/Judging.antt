-- Judging one record.
use Rattle.std.specs.Prelude.{◌≡◌, ℕ, ◌+◌, ◌⊎◌, List, [], ◌∷◌, ◌++◌, length, true}
use Rattle.vectors.specs.Suites.{suite_key_length, is_aead}
use Rattle.vectors.specs.Grammar.{Record}
use Rattle.vectors.specs.Agreement.{Agrees}

-- the key and the nonce of a record have the lengths of its suite
pub record IsSized (r : Record) : Type 0 where
  pub key : length r.key ≡ suite_key_length r.suite
  pub nonce : is_aead r.suite ≡ true → length r.nonce ≡ 12

-- a report becomes that of one more record
abbrev pub Judges : ℕ → List ℕ → Record → ℕ → List ℕ → Type 0
Judges count bad r more worse =
    (more ≡ count + 1) × ((Agrees r × (worse ≡ bad)) ⊎ ((¬ Agrees r) × (worse ≡ bad ++ more ∷ [])))
