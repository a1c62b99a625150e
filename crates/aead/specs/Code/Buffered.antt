-- ChaCha20's mask whose first bytes are computed in advance, and how many of its bytes were used.
use Rattle.std.specs.Prelude.{◌≡◌, ℕ, ◌+◌, ◌<◌, List, length, min, max, slice_index}
use Rattle.chacha.specs.Stream.{key_stream_byte}
use Rattle.chacha.specs.Code.States as chacha
use Rattle.aead.specs.declared.buffered_stream.BufferedStream.{BufferedStream}
use Rattle.aead.specs.Suites.{ByChaCha, construction_of}
use Rattle.aead.specs.Sealing.{Setting}
use Rattle.aead.specs.Code.Masks.{Masks}

-- m has given n bytes of the key stream from counter 1 on: it used the bytes that were computed in advance as far as they go,
-- and made the others
pub record IsBuffered (m : BufferedStream) (key nonce : List ℕ) (n : ℕ) : Type 0 where
  pub start_is : (i : ℕ) → i < length m.start.now → slice_index m.start.now i ≡ key_stream_byte key nonce 0 i
  pub used_is : m.used ≡ min (64 + n) (length m.start.now)
  pub rest_is : chacha.Holds m.rest key nonce 0 (max (64 + n) (length m.start.now))

-- m has given n bytes of the mask of a message of ChaCha20-Poly1305
abbrev pub MadeByBuffered : BufferedStream → Setting → List ℕ → ℕ → Type 0
MadeByBuffered m s tag n = (construction_of s.suite ≡ ByChaCha) × IsBuffered m s.key s.nonce n

-- a becomes b, and was becomes now: a call masks the next bytes
abbrev pub DidBuffered : BufferedStream → BufferedStream → List ℕ → List ℕ → Type 0
DidBuffered a b was now = Masks MadeByBuffered a b was now

-- a call that masks the next bytes does what `Masks` says
pub buffered_masks : (a b : BufferedStream) (was now : List ℕ) → DidBuffered a b was now → Masks MadeByBuffered a b was now
buffered_masks a b was now d = d
