-- The ciphers with which a short message of AES-GCM begins.
use Rattle.std.specs.Prelude.{◌≡◌, ℕ, ◌+◌, ◌*◌, ◌<◌, ◌≤◌, List, length}
use Rattle.octets.specs.Bytes.{block_at}
use Rattle.aes.specs.Cipher.{cipher}
use Rattle.aes.specs.Counters.{up_be}
use Rattle.aead.specs.Suites.{ByGcm, construction_of}
use Rattle.aead.specs.Sealing.{Setting, j0}

-- start holds the ciphers of J0 and of the blocks counted from it, as many as mask the tag and n bytes of a message of AES-GCM
pub record IsStart (start : List ℕ) (s : Setting) (n : ℕ) : Type 0 where
  pub by_gcm : construction_of s.suite ≡ ByGcm
  pub nonce_length : length s.nonce ≡ 12
  pub long : 16 + n ≤ length start
  pub blocks : (q : ℕ) → q * 16 < 16 + n → block_at start q ≡ cipher s.key (up_be (j0 s.nonce) q)
