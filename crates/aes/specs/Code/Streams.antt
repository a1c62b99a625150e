-- The states of the counter streams.
use Rattle.std.specs.Prelude.{◌≡◌, ℕ, ◌+◌, ◌/◌, ◌%◌, ◌^◌, ◌<◌, ◌≤◌, List, length, take, drop, true}
use Rattle.octets.specs.Masked.{masked}
use Rattle.aes.specs.Cipher.{cipher}
use Rattle.aes.specs.Counters.{counter_byte}
use Rattle.aes.specs.declared.counter.Counter.{Counter}
use Rattle.aes.specs.declared.counter.Ctr.{Ctr}
use Rattle.aes.specs.declared.counter.KnownBlock.{KnownBlock}

-- s has produced this many bytes of the stream that begins with the first block, under the key: it counts the blocks of these
-- bytes modulo 2^32, and if the last block is not used up, it holds the cipher of that block
pub record Makes {C : Type 0} (up : List ℕ → ℕ → List ℕ) (s : Counter C) (key : List ℕ) (first : List ℕ)
    (position : ℕ) : Type 0 where
  pub first_is : s.first ≡ first
  pub block_count_is : s.block_count ≡ (position + 15) / 16 % 2 ^ 32
  pub used_is : s.used ≡ position % 16
  pub mask_is : 0 < position % 16 → s.mask ≡ cipher key (up first (position / 16))

-- the block that b knows, if it knows one, has this cipher under the key
abbrev pub KnowsCipher : KnownBlock → (key : List ℕ) → Type 0
KnowsCipher b key = b.is_known ≡ true → b.cipher ≡ cipher key b.block

-- s becomes t, and was becomes now: after any number of bytes that s has produced under the key, the next ones are XORed in,
-- and t has produced these too
abbrev pub Advances : {C : Type 0} (up : List ℕ → ℕ → List ℕ) (key : List ℕ) (s t : Counter C) (was now : List ℕ)
    → Type 0
Advances up key s t was now = (first : List ℕ) (position : ℕ) → Makes up s key first position
    → Makes up t key first (position + length was) × (now ≡ masked (counter_byte up key first) position was)

-- s becomes t, and was becomes now: the next bytes of the stream are XORed into the first n, and the others are unchanged. If
-- there are others, the last block is used up
pub record AdvancesFront {C : Type 0} (up : List ℕ → ℕ → List ℕ) (key : List ℕ) (s t : Counter C)
    (was now : List ℕ) (n : ℕ) : Type 0 where
  pub within : n ≤ length was
  pub none : n < length was → t.used ≡ 0
  pub left : drop n now ≡ drop n was
  pub front : Advances up key s t (take n was) (take n now)

-- s has produced this many bytes of the stream that counts with `up` from the first block on, under its key
pub record Holds {C : Type 0} (up : List ℕ → ℕ → List ℕ) (s : Ctr C) (key : List ℕ) (first : List ℕ) (position : ℕ)
    : Type 0 where
  pub key_is : s.key.now ≡ key
  pub makes : Makes up s.counter key first position

-- s becomes t, and was becomes now: the next bytes of the stream that counts with `up` are XORed in
abbrev pub Did : {C : Type 0} → (List ℕ → ℕ → List ℕ) → Ctr C → Ctr C → List ℕ → List ℕ → Type 0
Did up s t was now = (key first : List ℕ) (position : ℕ) → Holds up s key first position
    → Holds up t key first (position + length was) × (now ≡ masked (counter_byte up key first) position was)
