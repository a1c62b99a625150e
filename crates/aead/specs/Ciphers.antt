-- A cipher as its caller sees it: a suite and a key.
use Rattle.std.specs.Prelude.{ℕ, List}
use Rattle.aead.specs.declared.suite.Suite.{Suite}
use Rattle.aead.specs.Sealing.{Setting}

-- a suite and a key for it
pub record Keyed : Type 0 where
  pub suite : Suite
  pub key : List ℕ

-- the setting of a message: the suite and the key of its cipher, its nonce and its associated data
abbrev pub setting : Keyed → List ℕ → List ℕ → Setting
setting k nonce aad = record { suite = k.suite; key = k.key; nonce = nonce; aad = aad }
