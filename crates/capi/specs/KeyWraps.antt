-- The outcomes of the calls for C that wrap and unwrap into another output (RFC 3394; RFC 5649).
use Rattle.std.specs.Prelude.{◌≡◌, ◌≢◌, ℕ, ◌+◌, ◌-◌, ◌%◌, ◌^◌, ◌≤◌, List, [], ◌∷◌, length}
use Rattle.octets.specs.declared.fault.Fault.{Fault}
use Rattle.octets.specs.declared.fault.Fault.TheVariants.{TextTooLong, WrapLength, WrapIntegrity}
use Rattle.octets.specs.Refusals.{◌unless◌, demands, FirstOf}
use Rattle.aes.specs.Cipher.{IsKey, IsKeyLength}
use Rattle.keywrap.specs.Wrapping.{HasTextLength, HasWrappedLength, Unwrapped, IsWrapping}
use Rattle.keywrap.specs.Padded.{HasPaddableLength, HasBlocks, UnwrappedPadded, UnwrappedPaddedTo, IsPaddedWrapping}
use Rattle.keywrap.specs.Refusals.{left_at, WrapToRefused, PaddedWrapToRefused}
use Rattle.capi.specs.Suites.{output_length, HasOutcomeOr}
use Rattle.capi.specs.Refusals.{KeyedRefused}

-- the status of wrapping a text into an output (RFC 3394, 2.2.1): either the output is the wrapping; or it is as it was, since a
-- length is not allowed or the output is not as long as the wrapping
abbrev pub WrapsTo : (status : ℕ) → (key text wrapped wrapped' : List ℕ) → Type 0
WrapsTo status key text wrapped wrapped' =
    HasOutcomeOr output_length status (IsKey key × Unwrapped key wrapped' text)
    (λ e. (wrapped' ≡ wrapped) × KeyedRefused key (WrapToRefused text) e)
    ((wrapped' ≡ wrapped) × IsKeyLength (length key) × HasTextLength text
    × (length wrapped ≢ length text + 8))

-- why bytes are not unwrapped into an output for their text, whose length has a status of its own
abbrev pub WrappedRefused : (key wrapped text : List ℕ) → Fault → Type 0
WrappedRefused key wrapped text = FirstOf (WrapLength unless HasWrappedLength wrapped
    ∷ demands (length wrapped ≡ length text + 8) ∷ WrapIntegrity unless IsWrapping key wrapped ∷ [])

-- the status of unwrapping into an output (RFC 3394, 2.2.2): either the output is the text; or nothing is unwrapped; or the
-- output is not as long as the text, and is as it was
abbrev pub UnwrapsTo : (status : ℕ) → (key wrapped text text' : List ℕ) → Type 0
UnwrapsTo status key wrapped text text' =
    HasOutcomeOr output_length status (IsKey key × Unwrapped key wrapped text')
    (λ e. (text' ≡ left_at e text) × KeyedRefused key (WrappedRefused key wrapped text) e)
    ((text' ≡ text) × IsKeyLength (length key) × HasWrappedLength wrapped
    × (length wrapped ≢ length text + 8))

-- the status of wrapping a text with padding into an output (RFC 5649, 4.1): either the output is the wrapping; or it is as it
-- was, since a length is not allowed or the output is not as long as the wrapping
abbrev pub WrapsPaddedTo : (status : ℕ) → (key text wrapped wrapped' : List ℕ) → Type 0
WrapsPaddedTo status key text wrapped wrapped' =
    HasOutcomeOr output_length status (IsKey key × UnwrappedPadded key wrapped' text)
    (λ e. (wrapped' ≡ wrapped) × KeyedRefused key (PaddedWrapToRefused text) e)
    ((wrapped' ≡ wrapped) × IsKeyLength (length key) × HasPaddableLength text
    × (length wrapped ≢ 8 + (length text + (8 - length text % 8) % 8)))

-- why bytes are not unwrapped with padding into an output for their text, whose length has a status of its own
abbrev pub PaddedRefused : (key wrapped text : List ℕ) → Fault → Type 0
PaddedRefused key wrapped text = FirstOf (WrapLength unless HasBlocks wrapped
    ∷ TextTooLong unless (length wrapped ≤ 2 ^ 32 + 8) ∷ demands (length wrapped ≡ length text + 8)
    ∷ WrapIntegrity unless IsPaddedWrapping key wrapped ∷ [])

-- the status of unwrapping with padding into an output and a number n (RFC 5649, 4.2): either these become the text with the
-- zeros of its padding, and the text's length; or nothing is unwrapped, and n is as it was; or the output is not 8 bytes shorter
-- than the wrapping, and both are as they were
abbrev pub UnwrapsPaddedTo : (status : ℕ) → (key wrapped text text' : List ℕ) → (n n' : ℕ) → Type 0
UnwrapsPaddedTo status key wrapped text text' n n' =
    HasOutcomeOr output_length status (IsKey key × UnwrappedPaddedTo key wrapped n' text')
    (λ e. (n' ≡ n) × (text' ≡ left_at e text) × KeyedRefused key (PaddedRefused key wrapped text) e)
    ((n' ≡ n) × (text' ≡ text) × IsKeyLength (length key) × HasBlocks wrapped
    × (length wrapped ≤ 2 ^ 32 + 8) × (length wrapped ≢ length text + 8))
