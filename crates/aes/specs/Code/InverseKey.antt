-- A key that is prepared for the equivalent inverse cipher (FIPS 197, 5.3.5).
use Rattle.std.specs.Prelude.{◌≡◌, ℕ, ◌<◌, List, [], slice_index_or}
use Rattle.aes.specs.Schedule.{schedule, round_count}
use Rattle.aes.specs.Cipher.{IsKey}
use Rattle.aes.specs.Code.InverseSteps.{round_key, inverse_mix_columns}
use Rattle.aes.specs.Code.InverseLanes.{HoldsUndone}
use Rattle.aes.specs.declared.inverse_key.InverseKey.{InverseKey}

-- the arrays of s are the round keys of the key's schedule; those between the first and the last are after InvMixColumns, in the
-- form that the inverse S-box takes
pub record IsInverse (s : InverseKey) (key : List ℕ) : Type 0 where
  pub is_key : IsKey key
  pub rounds_are : s.rounds ≡ round_count key
  pub first : slice_index_or s.keys 0 [] ≡ round_key (schedule key) 0
  pub middle : (n : ℕ) → 0 < n → n < s.rounds
      → HoldsUndone (slice_index_or s.keys n []) (inverse_mix_columns (round_key (schedule key) n))
  pub last : slice_index_or s.keys s.rounds [] ≡ round_key (schedule key) s.rounds
