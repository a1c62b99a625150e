-- A key that is kept in C's memory between messages.
use Rattle.std.specs.Prelude.{◌≡◌, ◌≢◌, ℕ, ◌-◌, false, List, drop, replicate}
use Rattle.gf128.specs.Code.PlainMultiples.{no_multiples}
use Rattle.aead.specs.declared.suite.Suite.{Suite}
use Rattle.aead.specs.Suites.{construction_of, key_length}
use Rattle.capi.specs.declared.stored_key.KeyNumbers.{KeyNumbers}
use Rattle.capi.specs.declared.stored_key.StoredKey.{StoredKey}
use Rattle.capi.specs.Keys.{key_mark, first_key, has_aes, has_hash_key}

-- p keeps this key for this suite
pub record KeepsKey (p : StoredKey) (suite : Suite) (key : List ℕ) : Type 0 where
  pub mark_is : p.numbers.mark ≡ key_mark suite
  pub key_is : key ≡ first_key suite p.numbers.key

-- what the suite does not use is zeros: the bytes after the key; the schedule, if the suite has no AES; the hash key and its
-- multiples, if the suite has no hash key that depends on the key alone. So nothing of an earlier key is left in them, and nothing
-- that depends on this key either
pub record HasZeros (n : KeyNumbers) (suite : Suite) : Type 0 where
  pub padded : drop (key_length suite) n.key ≡ replicate (32 - key_length suite) 0
  pub ready_keys_are : has_aes (construction_of suite) ≡ false → n.ready_keys ≡ replicate 15 (replicate 16 0)
  pub ghash_key_is : has_hash_key (construction_of suite) ≡ false → n.ghash_key ≡ replicate 16 0
  pub multiples_are : has_hash_key (construction_of suite) ≡ false → n.multiples ≡ no_multiples

-- p keeps this key for this suite, and what the suite does not use is zeros
pub record IsOfKey (p : StoredKey) (suite : Suite) (key : List ℕ) : Type 0 where
  pub keeps : KeepsKey p suite key
  pub zeros : HasZeros p.numbers suite

-- n are the numbers of a struct that keeps this key for this suite, with the values that depend on the key, and what the suite does
-- not use is zeros
pub record AreOfKey (n : KeyNumbers) (suite : Suite) (key : List ℕ) : Type 0 where
  pub keeps : (p : StoredKey) × ((p.numbers ≡ n) × KeepsKey p suite key)
  pub zeros : HasZeros n suite

-- the mark is not that of a suite
abbrev pub KeepsNone : KeyNumbers → Type 0
KeepsNone n = (suite : Suite) → n.mark ≢ key_mark suite

-- n is zeros: neither a key nor a value that depends on one is left in it
pub record IsCleared (n : KeyNumbers) : Type 0 where
  pub mark_is : n.mark ≡ 0
  pub key_is : n.key ≡ replicate 32 0
  pub ready_keys_are : n.ready_keys ≡ replicate 15 (replicate 16 0)
  pub ghash_key_is : n.ghash_key ≡ replicate 16 0
  pub multiples_are : n.multiples ≡ no_multiples
