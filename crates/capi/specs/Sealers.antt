-- Sealings in pieces in C's memory.
use Rattle.std.specs.Prelude.{◌≡◌, ◌≢◌, ℕ, ◌+◌, true, List, ◌++◌, length}
use Rattle.octets.specs.Masked.{masked}
use Rattle.octets.specs.Numbers.{HasOutcome}
use Rattle.aead.specs.declared.suite.Suite.{Suite}
use Rattle.aead.specs.Suites.{construction_of, is_one_pass, suite_number}
use Rattle.aead.specs.Sealing.{Setting, mask_of}
use Rattle.aead.specs.Refusals.{SealRefused}
use Rattle.aead.specs.PassStates.{HoldsState, zero_state}
use Rattle.aead.specs.KeyedPasses.{HasKeys, zero_keys}
use Rattle.capi.specs.declared.sealer.StoredSealer.{StoredSealer}

-- the mark of a sealing in pieces: `sealer` in ASCII, the version of the layout, and the suite's number
abbrev pub sealer_mark : Suite → ℕ
sealer_mark suite = 0x7365616c65720200 + suite_number suite

-- the mark is not that of a suite whose tag is over the ciphertext
abbrev pub NotBegun : StoredSealer → Type 0
NotBegun p = (suite : Suite) → is_one_pass (construction_of suite) ≡ true → p.mark ≢ sealer_mark suite

-- the struct of zeros
abbrev pub zeros : StoredSealer
zeros = record { mark = 0; keys = zero_keys; reserved = 0; state = zero_state }

-- p has the keys of a message in one reading, and has taken in this text
pub record HoldsText (p : StoredSealer) (s : Setting) (text : List ℕ) : Type 0 where
  pub mark_is : p.mark ≡ sealer_mark s.suite
  pub one_pass : is_one_pass (construction_of s.suite) ≡ true
  pub keys : HasKeys p.keys s
  pub state : HoldsState p.state s text

-- p becomes q, and the bytes `was` become `now`: if p holds the text, either a piece is added and masked, or the text would be
-- too long
abbrev pub Updates : (p q : StoredSealer) (was now : List ℕ) (status : ℕ) → Setting → List ℕ → Type 0
Updates p q was now status s text =
    HoldsText p s text → HasOutcome status
    (HoldsText q s (text ++ was) × ((tag : List ℕ) → now ≡ masked (mask_of s tag) (length text) was))
    (λ e. SealRefused s (text ++ was) e)
