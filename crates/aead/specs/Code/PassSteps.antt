-- The steps of a pass whose state is plain numbers.
use Rattle.std.specs.Prelude.{◌≡◌, ℕ, ◌+◌, ◌≤◌, List, ◌++◌, length}
use Rattle.octets.specs.Masked.{masked}
use Rattle.aes.specs.declared.counter.KnownBlock.{KnownBlock}
use Rattle.aes.specs.Code.Streams.{KnowsCipher}
use Rattle.aead.specs.declared.pieces.pass_state.PassState.{PassState}
use Rattle.aead.specs.Suites.{text_limit}
use Rattle.aead.specs.Sealing.{Setting, mask_of}
use Rattle.aead.specs.PassStates.{HoldsNumbers}
use Rattle.aead.specs.KeyedPasses.{KnowsCipherOf}
use Rattle.aead.specs.Pieces.{HasTakenIn}

-- p becomes q, and was becomes now: if p has taken in the authenticated bytes of `fed`, q has taken in those of one more piece
-- too, which is within the limit and is masked
abbrev pub MasksPiece : (hashed : (ℕ → ℕ) → List ℕ → List ℕ) (p q : PassState) (was now : List ℕ)
    → Setting → (tag fed : List ℕ) → Type 0
MasksPiece hashed p q was now s tag fed =
    p.length ≡ length fed → p.length + length was ≤ text_limit s.suite
    → HoldsNumbers p s (hashed (mask_of s tag) fed)
    → HoldsNumbers q s (hashed (mask_of s tag) (fed ++ was)) × (now ≡ masked (mask_of s tag) (length fed) was)

-- as MasksPiece, and b becomes c: if the block that b knows has its cipher under the key, so has the block that c knows
abbrev pub MasksPieceKnowing : (hashed : (ℕ → ℕ) → List ℕ → List ℕ) (p q : PassState) (b c : KnownBlock)
    (was now : List ℕ) → (key : List ℕ) → Setting → (tag fed : List ℕ) → Type 0
MasksPieceKnowing hashed p q b c was now key s tag fed =
    p.length ≡ length fed → p.length + length was ≤ text_limit s.suite
    → HoldsNumbers p s (hashed (mask_of s tag) fed) → KnowsCipher b key
    → HoldsNumbers q s (hashed (mask_of s tag) (fed ++ was)) × (now ≡ masked (mask_of s tag) (length fed) was)
    × KnowsCipher c key

-- p becomes q: if p has taken in the text of these bytes of a ciphertext, q has taken in that of one more piece, within the limit
abbrev pub TakesPieceText : (p q : PassState) (piece : List ℕ) → Setting → (tag fed : List ℕ) → Type 0
TakesPieceText p q piece s tag fed =
    p.length ≡ length fed → p.length + length piece ≤ text_limit s.suite
    → HoldsNumbers p s (masked (mask_of s tag) 0 fed)
    → HoldsNumbers q s (masked (mask_of s tag) 0 (fed ++ piece))

-- p becomes q: if p has taken in these bytes, q has taken in one more piece, within the limit
abbrev pub TakesPiece : (p q : PassState) (piece : List ℕ) → Setting → (bytes : List ℕ) → Type 0
TakesPiece p q piece s bytes =
    p.length + length piece ≤ text_limit s.suite → HoldsNumbers p s bytes → HoldsNumbers q s (bytes ++ piece)

-- p becomes q: if p has taken in this ciphertext under a tag, q has taken in one more piece, within the limit
abbrev pub ChecksPiece : (p q : PassState) (piece : List ℕ) → Setting → (tag body : List ℕ) → Type 0
ChecksPiece p q piece s tag body =
    p.length + length piece ≤ text_limit s.suite → HasTakenIn p s tag body → HasTakenIn q s tag (body ++ piece)

-- p becomes q, was becomes now, and b becomes c: if p has taken in this ciphertext under a tag, and b knows its cipher, q has
-- taken in one more piece, within the limit, which is decrypted, and c knows its cipher
abbrev pub OpensPiece : (p q : PassState) (b c : KnownBlock) (was now : List ℕ) → Setting → (tag body : List ℕ) → Type 0
OpensPiece p q b c was now s tag body =
    p.length + length was ≤ text_limit s.suite → HasTakenIn p s tag body → KnowsCipherOf b s
    → HasTakenIn q s tag (body ++ was) × (now ≡ masked (mask_of s tag) (length body) was) × KnowsCipherOf c s
