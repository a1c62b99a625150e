-- The outcomes of the calls for C on whole messages.
use Rattle.std.specs.Prelude.{◌≡◌, ◌≢◌, ℕ, ◌+◌, ◌≤◌, List, [], ◌∷◌, ◌++◌, length, replicate}
use Rattle.octets.specs.declared.fault.Fault.{Fault}
use Rattle.octets.specs.declared.fault.Fault.TheVariants.{KeyLength, NonceLength, TextTooLong, AadTooLong}
use Rattle.octets.specs.declared.fault.Fault.TheVariants.{TooShort, TagMismatch}
use Rattle.octets.specs.Refusals.{Check, ◌unless◌, demands, FirstOf}
use Rattle.octets.proofs.Refusals.{more}
use Rattle.aead.specs.Suites.{key_length, text_limit, aad_limit}
use Rattle.aead.specs.Sealing.{Setting, Fits, Opened, IsSealing}
use Rattle.aead.specs.Refusals.{FitsSealed}
use Rattle.aead.specs.KeyedPasses.{HasLengths}
use Rattle.capi.specs.Suites.{output_length, HasOutcomeOr}

-- ---- in place, with the tag apart

-- the checks of the lengths of a message in place
abbrev pub length_checks : Setting → List ℕ → List Check
length_checks s text = KeyLength unless (length s.key ≡ key_length s.suite) ∷ NonceLength unless (length s.nonce ≡ 12)
    ∷ AadTooLong unless (length s.aad ≤ aad_limit s.suite) ∷ TextTooLong unless (length text ≤ text_limit s.suite) ∷ []

-- why a text is not sealed, whatever its bytes are
abbrev pub LengthRefused : Setting → List ℕ → Fault → Type 0
LengthRefused s text = FirstOf (length_checks s text)

-- a text became its ciphertext, and has this tag
abbrev pub WasSealed : Setting → (text text' tag' : List ℕ) → Type 0
WasSealed s text text' tag' = HasLengths s × Opened s (text' ++ tag') text

-- a length does not fit, and neither the text nor the room for the tag was changed
abbrev pub WasNotSealed : Setting → (text tag text' tag' : List ℕ) → Fault → Type 0
WasNotSealed s text tag text' tag' fault = (text' ≡ text) × (tag' ≡ tag) × LengthRefused s text fault

-- a ciphertext with this tag became its text
abbrev pub WasOpened : Setting → (text tag text' : List ℕ) → Type 0
WasOpened s text tag text' = HasLengths s × Opened s (text ++ tag) text'

-- why a ciphertext and a tag are not opened
abbrev pub BodyRefused : Setting → (text tag : List ℕ) → Fault → Type 0
BodyRefused s text tag = FirstOf (length_checks s text ++ TagMismatch unless IsSealing s (text ++ tag) ∷ [])

-- if a length does not fit for sealing a text, it does not fit for opening a ciphertext
pub length_refuses : (s : Setting) (text tag : List ℕ) (fault : Fault) → LengthRefused s text fault
    → BodyRefused s text tag fault
length_refuses s text tag = more (length_checks s text) (TagMismatch unless IsSealing s (text ++ tag) ∷ [])

-- a ciphertext and a tag were not opened, and no byte was changed
abbrev pub WasNotOpened : Setting → (text tag text' : List ℕ) → Fault → Type 0
WasNotOpened s text tag text' fault = (text' ≡ text) × BodyRefused s text tag fault

-- ---- into another output, with the tag behind the ciphertext

-- the status of sealing a text into an output: either the output is the sealing; or it is as it was, since a length does not fit
-- or the output is not as long as the sealing
abbrev pub SealsTo : (status : ℕ) → Setting → (text sealed sealed' : List ℕ) → Type 0
SealsTo status s text sealed sealed' =
    HasOutcomeOr output_length status (HasLengths s × Opened s sealed' text)
    (λ e. (sealed' ≡ sealed) × LengthRefused s text e)
    ((sealed' ≡ sealed) × HasLengths s × Fits s text × (length sealed ≢ length text + 16))

-- why bytes are not opened into an output for their text, whose length has a status of its own
abbrev pub SealedRefused : Setting → (sealed text : List ℕ) → Fault → Type 0
SealedRefused s sealed text = FirstOf (KeyLength unless (length s.key ≡ key_length s.suite)
    ∷ NonceLength unless (length s.nonce ≡ 12) ∷ AadTooLong unless (length s.aad ≤ aad_limit s.suite)
    ∷ TooShort unless (16 ≤ length sealed) ∷ TextTooLong unless (length sealed ≤ text_limit s.suite + 16)
    ∷ demands (length sealed ≡ length text + 16) ∷ TagMismatch unless IsSealing s sealed ∷ [])

-- the output after a fault: zeros if the sealing is not valid, else as it was
abbrev pub left_at : Fault → List ℕ → List ℕ
left_at TagMismatch text = replicate (length text) 0
left_at fault text = text

-- the status of opening a sealing into an output: either the output is the text; or nothing is opened; or the output is not as
-- long as the text, and is as it was
abbrev pub OpensTo : (status : ℕ) → Setting → (sealed text text' : List ℕ) → Type 0
OpensTo status s sealed text text' =
    HasOutcomeOr output_length status (HasLengths s × Opened s sealed text')
    (λ e. (text' ≡ left_at e text) × SealedRefused s sealed text e)
    ((text' ≡ text) × HasLengths s × FitsSealed s sealed × (length sealed ≢ length text + 16))
