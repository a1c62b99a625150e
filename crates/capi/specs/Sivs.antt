-- Sealings in pieces in two readings in C's memory.
use Rattle.std.specs.Prelude.{◌≡◌, ◌≢◌, ◌<◌, ℕ, ◌+◌, List, [], ◌++◌, length}
use Rattle.octets.specs.Masked.{masked}
use Rattle.octets.specs.Numbers.{HasOutcome}
use Rattle.octets.specs.declared.fault.Fault.TheVariants.{SourceChanged}
use Rattle.aead.specs.declared.suite.Suite.{Suite}
use Rattle.aead.specs.declared.suite.Construction.TheVariants.{GcmSiv as ByGcmSiv}
use Rattle.aead.specs.Suites.{construction_of, suite_number}
use Rattle.aead.specs.Sealing.{Setting, mask_of, tag_of}
use Rattle.aead.specs.Refusals.{SealRefused}
use Rattle.aead.specs.Pieces.{IsInFirstReading, IsInSecondReading, Repeats, zero_passes}
use Rattle.aead.specs.KeyedPasses.{HasKeys, zero_keys}
use Rattle.capi.specs.declared.siv.StoredSiv.{StoredSiv}

-- the kind of struct in the first reading, to which its mark adds the suite's number: `sivone` in ASCII, and the
-- version of the layout
abbrev pub absorbing : ℕ
absorbing = 0x7369766f6e650200

-- the kind of struct in the second reading: `sivtwo` in ASCII, and the version of the layout
abbrev pub writing : ℕ
writing = 0x73697674776f0200

-- the mark is not that of a suite of AES-GCM-SIV in this reading
abbrev pub NotIn : ℕ → StoredSiv → Type 0
NotIn kind p = (suite : Suite) → construction_of suite ≡ ByGcmSiv → p.mark ≢ kind + suite_number suite

-- the struct of zeros
abbrev pub zeros : StoredSiv
zeros = record { mark = 0; keys = zero_keys; reserved = 0; state = zero_passes }

-- p has the keys of a message of AES-GCM-SIV and is in the first reading, and has taken in this text
pub record HoldsAbsorbing (p : StoredSiv) (s : Setting) (text : List ℕ) : Type 0 where
  pub mark_is : p.mark ≡ absorbing + suite_number s.suite
  pub by_gcm_siv : construction_of s.suite ≡ ByGcmSiv
  pub keys : HasKeys p.keys s
  pub state : IsInFirstReading p.state s text

-- p has the keys of a message of AES-GCM-SIV and is in the second reading, and has taken in this text; the text `first` of the
-- first reading is not shorter
pub record HoldsWriting (p : StoredSiv) (s : Setting) (first text : List ℕ) : Type 0 where
  pub mark_is : p.mark ≡ writing + suite_number s.suite
  pub by_gcm_siv : construction_of s.suite ≡ ByGcmSiv
  pub keys : HasKeys p.keys s
  pub state : IsInSecondReading p.state s first text

-- ---- the outcomes of the calls

-- p becomes q: a piece is taken in, or the text would be too long
abbrev pub Absorbs : (p q : StoredSiv) (piece : List ℕ) (status : ℕ) → Setting → (text : List ℕ) → Type 0
Absorbs p q piece status s text =
    HoldsAbsorbing p s text → HasOutcome status (HoldsAbsorbing q s (text ++ piece))
    (λ e. SealRefused s (text ++ piece) e)

-- p becomes q: the tag of the first text is given, and the second reading begins
abbrev pub BeginsSecond : (p q : StoredSiv) (tag : List ℕ) (status : ℕ) → Setting → (text : List ℕ) → Type 0
BeginsSecond p q tag status s text =
    HoldsAbsorbing p s text → (status ≡ 0) × (tag ≡ tag_of s text) × HoldsWriting q s text []

-- p becomes q, and the bytes `was` become `now`: either a piece is taken in and encrypted, or the second text would be longer
-- than the first
abbrev pub Encrypts : (p q : StoredSiv) (was now : List ℕ) (status : ℕ) → Setting → (first text : List ℕ)
    → Type 0
Encrypts p q was now status s first text =
    HoldsWriting p s first text → HasOutcome status
    (HoldsWriting q s first (text ++ was) × (now ≡ masked (mask_of s (tag_of s first)) (length text) was))
    (λ e. (e ≡ SourceChanged) × (length first < length (text ++ was)))

-- either the second text has the length and the tag of the first, or it does not
abbrev pub Ends : (p : StoredSiv) (status : ℕ) → Setting → (first text : List ℕ) → Type 0
Ends p status s first text =
    HoldsWriting p s first text → HasOutcome status (Repeats s first text)
    (λ e. (e ≡ SourceChanged) × ¬ (Repeats s first text))
