-- The effect of masks on the bytes that come next.
use Rattle.std.specs.Prelude.{◌≡◌, ℕ, ◌+◌, ◌-◌, ◌^◌, ◌≤◌, List, [], ◌++◌, length}
use Rattle.std.proofs.Common.{◌∙◌, refl, sym, ap, arith}
use Rattle.octets.specs.Masked.{masked}
use Rattle.chacha.specs.declared.stream.ChaStream.{ChaStream}
use Rattle.chacha.specs.Code.States as chacha
use Rattle.aes.specs.declared.counter.Ctr.{Ctr}
use Rattle.aes.specs.Code.Streams.{Did}
use Rattle.aead.specs.Suites.{text_limit, text_limit_by}
use Rattle.aead.specs.Suites.{Construction, ByChaCha, ByGcm, ByGcmSiv, construction_of}
use Rattle.aead.specs.KeyedPasses.{cipher_key}
use Rattle.aead.specs.Sealing.{Setting, j0, encryption_key, counter_block, mask, mask_by, mask_of}
use Rattle.aead.specs.Code.States.{MadeByChaCha, MadeByCounter, first_counter, HoldsAuthenticator}
use Rattle.aead.specs.declared.authenticator.Authenticator.{Authenticator}
use Rattle.aead.specs.declared.step.Order.{Order}
use Rattle.aead.specs.declared.step.Order.TheVariants.{MaskFirst, HashFirst}
use Rattle.chacha.specs.Stream.{key_stream_byte}
use Rattle.aes.specs.Counters.{up_be, up_le, counter_byte}

-- a becomes b, and was becomes now: the next bytes of the mask are XORed in, within the limit of a text
abbrev pub Masks : {S : Type 0} (made : S → Setting → List ℕ → ℕ → Type 0) (a b : S) (was now : List ℕ) → Type 0
Masks made a b was now =
    (s : Setting) (tag : List ℕ) (n : ℕ) → made a s tag n → n + length was ≤ text_limit s.suite
    → made b s tag (n + length was) × (now ≡ masked (mask_of s tag) n was)

-- the hash a becomes b: it takes in these bytes
abbrev pub Takes : {H : Type 0} (held : H → Setting → List ℕ → Type 0) (a b : H) (bytes : List ℕ) → Type 0
Takes held a b bytes = (s : Setting) (m : List ℕ) → held a s m → held b s (m ++ bytes)

-- the bytes authenticated if pieces are hashed first: the pieces as they come in
abbrev pub as_it_comes : (ℕ → ℕ) → List ℕ → List ℕ
as_it_comes mask bytes = bytes

-- the bytes authenticated if pieces are masked first: the pieces as they leave, masked
abbrev pub as_it_leaves : (ℕ → ℕ) → List ℕ → List ℕ
as_it_leaves mask bytes = masked mask 0 bytes

-- the bytes of these pieces that are authenticated, in either order of masking and hashing
abbrev pub hashed_by : Order → (ℕ → ℕ) → List ℕ → List ℕ
hashed_by MaskFirst mask bytes = as_it_leaves mask bytes
hashed_by HashFirst mask bytes = as_it_comes mask bytes

-- masking no bytes gives no bytes
pub none_leaves : (mask : ℕ → ℕ) → as_it_leaves mask [] ≡ []
unfolding masked
none_leaves mask = refl

-- if there are no pieces, no bytes are authenticated
pub none_hashed : (order : Order) (mask : ℕ → ℕ) → hashed_by order mask [] ≡ []
none_hashed MaskFirst mask = none_leaves mask
none_hashed HashFirst mask = refl

-- m and a become m' and a': the next piece is masked and authenticated, within the limit of a text
abbrev pub MasksAndHashes : {S H : Type 0} (made : S → Setting → List ℕ → ℕ → Type 0)
    (held : H → Setting → List ℕ → Type 0)
    (hashed : (ℕ → ℕ) → List ℕ → List ℕ) (m m' : S) (a a' : Authenticator H) (was now : List ℕ) → Type 0
MasksAndHashes made held hashed m m' a a' was now =
    (s : Setting) (tag fed : List ℕ) → made m s tag (length fed)
    → HoldsAuthenticator held a s (hashed (mask_of s tag) fed)
    → length fed + length was ≤ text_limit s.suite
    → made m' s tag (length (fed ++ was)) × HoldsAuthenticator held a' s (hashed (mask_of s tag) (fed ++ was))
    × (now ≡ masked (mask_of s tag) (length fed) was)

-- m and a become m' and a': the text of the next bytes of a ciphertext is authenticated, within the limit of a text
abbrev pub TakesText : {S H : Type 0} (made : S → Setting → List ℕ → ℕ → Type 0)
    (held : H → Setting → List ℕ → Type 0) (m m' : S) (a a' : Authenticator H) (bytes : List ℕ) → Type 0
TakesText made held m m' a a' bytes =
    (s : Setting) (tag fed : List ℕ) → made m s tag (length fed)
    → HoldsAuthenticator held a s (masked (mask_of s tag) 0 fed)
    → length fed + length bytes ≤ text_limit s.suite
    → made m' s tag (length (fed ++ bytes)) × HoldsAuthenticator held a' s (masked (mask_of s tag) 0 (fed ++ bytes))

-- the masks of the three constructions, each as a stream of its cipher
pub chacha_mask : (s : Setting) (tag : List ℕ) → construction_of s.suite ≡ ByChaCha
    → mask_of s tag ≡ key_stream_byte s.key s.nonce 1
unfolding mask mask_by
chacha_mask s tag e = ap (λ by. mask_by by s.key s.nonce tag) e

pub gcm_mask : (s : Setting) (tag : List ℕ) → construction_of s.suite ≡ ByGcm
    → mask_of s tag ≡ counter_byte up_be s.key (up_be (j0 s.nonce) 1)
unfolding mask mask_by
gcm_mask s tag e = ap (λ by. mask_by by s.key s.nonce tag) e

pub siv_mask : (s : Setting) (tag : List ℕ) → construction_of s.suite ≡ ByGcmSiv
    → mask_of s tag ≡ counter_byte up_le (encryption_key s.key s.nonce) (counter_block tag)
unfolding mask mask_by
siv_mask s tag e = ap (λ by. mask_by by s.key s.nonce tag) e

-- if the stream of a construction is applied to the next bytes, the next bytes of the mask are XORed in
pub chacha_masks : (a b : ChaStream) (was now : List ℕ) → chacha.Did a b was now → Masks MadeByChaCha a b was now
chacha_masks a b was now did = λ s tag n h room.
    let limit : text_limit s.suite ≡ 2 ^ 38 - 64 = ap text_limit_by h.0 in
    let applied = did s.key s.nonce 1 n h.1 (omega (arith, room, limit)) in (
      (h.0, applied.holds),
      applied.masked_is ∙ sym (ap (λ f. masked f n was) (chacha_mask s tag h.0)),
    )

-- a counter stream gives the mask of the messages of this construction
abbrev pub IsMask : Construction → (up : List ℕ → ℕ → List ℕ) → Type 0
IsMask by up = (s : Setting) (tag : List ℕ) → construction_of s.suite ≡ by
    → mask_of s tag ≡ counter_byte up (cipher_key by s) (first_counter by s.nonce tag)

pub counter_masks : {C : Type 0} (by : Construction) (up : List ℕ → ℕ → List ℕ) → IsMask by up → (a b : Ctr C)
    (was now : List ℕ) → Did up a b was now → Masks (MadeByCounter by up) a b was now
counter_masks by up is a b was now did = λ s tag n h room.
    let applied = did _ _ n h.1 in
    ((h.0, applied.0), applied.1 ∙ sym (ap (λ f. masked f n was) (is s tag h.0)))
