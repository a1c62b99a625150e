-- Openings in pieces in C's memory.
use Rattle.std.specs.Prelude.{◌≡◌, ◌≢◌, ℕ, ◌+◌, ◌<◌, List, [], ◌++◌, length}
use Rattle.octets.specs.Masked.{masked}
use Rattle.octets.specs.Numbers.{HasOutcome}
use Rattle.octets.specs.declared.fault.Fault.TheVariants.{TagMismatch, SourceChanged}
use Rattle.aead.specs.declared.suite.Suite.{Suite}
use Rattle.aead.specs.Sealing.{Setting, IsNoSealing, mask_of}
use Rattle.aead.specs.Refusals.{SealRefused}
use Rattle.aead.specs.Pieces.{IsInFirstPass, IsInSecondPass, MasksByBytes, Opens, WasOverASealing, zero_passes}
use Rattle.aead.specs.KeyedPasses.{HasKeys, zero_keys}
use Rattle.capi.specs.declared.opener.StoredOpener.{StoredOpener}
use Rattle.aead.specs.Suites.{suite_number}

-- the kind of struct in the first pass, to which its mark adds the suite's number: `opener` in ASCII, and the
-- version of the layout
abbrev pub checking : ℕ
checking = 0x6f70656e65720200

-- the kind of struct in the second pass: `opened` in ASCII, and the version of the layout
abbrev pub opening : ℕ
opening = 0x6f70656e65640200

-- the mark is not that of a suite in this pass
abbrev pub NotIn : ℕ → StoredOpener → Type 0
NotIn kind p = (suite : Suite) → p.mark ≢ kind + suite_number suite

-- the struct of zeros
abbrev pub zeros : StoredOpener
zeros = record { mark = 0; keys = zero_keys; reserved = 0; state = zero_passes }

-- p has the keys of a message and is in the first pass of opening a ciphertext under this tag, and has taken in these bytes of the
-- ciphertext
pub record HoldsChecking (p : StoredOpener) (s : Setting) (tag bytes : List ℕ) : Type 0 where
  pub mark_is : p.mark ≡ checking + suite_number s.suite
  pub keys : HasKeys p.keys s
  pub masks : MasksByBytes s
  pub state : IsInFirstPass p.state s tag bytes

-- p has the keys of a message and is in the second pass, and has taken in these bytes of the ciphertext. The first pass was over a
-- valid sealing, with this many bytes of ciphertext
pub record HoldsOpening (p : StoredOpener) (s : Setting) (tag : List ℕ) (first : ℕ) (bytes : List ℕ) : Type 0
  where
    pub mark_is : p.mark ≡ opening + suite_number s.suite
    pub keys : HasKeys p.keys s
    pub masks : MasksByBytes s
    pub state : IsInSecondPass p.state s tag first bytes

-- ---- the outcomes of the calls

-- p becomes q: a piece is taken in, or the ciphertext would be too long
abbrev pub Checks : (p q : StoredOpener) (piece : List ℕ) (status : ℕ) → Setting → (tag bytes : List ℕ) → Type 0
Checks p q piece status s tag bytes =
    HoldsChecking p s tag bytes → HasOutcome status (HoldsChecking q s tag (bytes ++ piece))
    (λ e. SealRefused s (bytes ++ piece) e)

-- p becomes q: either the first pass was over a valid sealing, and the second begins; or it was not
abbrev pub BeginsSecond : (p q : StoredOpener) (status : ℕ) → Setting → (tag bytes : List ℕ) → Type 0
BeginsSecond p q status s tag bytes =
    HoldsChecking p s tag bytes
    → HasOutcome status (HoldsOpening q s tag (length bytes) [] × Opens s tag bytes)
    (λ e. (e ≡ TagMismatch) × IsNoSealing s (bytes ++ tag))

-- p becomes q, and the bytes `was` become `now`: either a piece is taken in and decrypted, after a first pass over a valid
-- sealing; or the second pass would be longer than the first
abbrev pub Decrypts : (p q : StoredOpener) (was now : List ℕ) (status : ℕ) → Setting → (tag : List ℕ)
    (first : ℕ) (bytes : List ℕ) → Type 0
Decrypts p q was now status s tag first bytes =
    HoldsOpening p s tag first bytes → HasOutcome status
    (HoldsOpening q s tag first (bytes ++ was) × (now ≡ masked (mask_of s tag) (length bytes) was)
    × WasOverASealing s tag first)
    (λ e. (e ≡ SourceChanged) × (first < length (bytes ++ was)))

-- either the second pass was over a valid sealing, whose text it gave; or it was not
abbrev pub Ends : (p : StoredOpener) (status : ℕ) → Setting → (tag : List ℕ) (first : ℕ) (bytes : List ℕ)
    → Type 0
Ends p status s tag first bytes =
    HoldsOpening p s tag first bytes → HasOutcome status (Opens s tag bytes)
    (λ e. (e ≡ SourceChanged) × IsNoSealing s (bytes ++ tag))
