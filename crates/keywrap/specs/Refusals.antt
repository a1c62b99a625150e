-- The cause of each refusal: a call's checks in their order.
use Rattle.std.specs.Prelude.{ℕ, ◌+◌, ◌^◌, ◌<◌, ◌≤◌, List, [], ◌∷◌, length, replicate}
use Rattle.octets.specs.declared.fault.Fault.{Fault}
use Rattle.octets.specs.declared.fault.Fault.TheVariants.{TextTooLong, WrapLength, WrapIntegrity, OutOfMemory}
use Rattle.octets.specs.Refusals.{◌unless◌, perhaps, FirstOf}
use Rattle.keywrap.specs.Wrapping.{HasTextLength, HasWrappedLength, IsWrapping}
use Rattle.keywrap.specs.Padded.{HasBlocks, HasPaddedRoom, IsPaddedWrapping}

-- why a text is not wrapped into a vector, which holds at most `most` bytes
abbrev pub WrapRefused : ℕ → List ℕ → Fault → Type 0
WrapRefused most text = FirstOf (WrapLength unless HasTextLength text
    ∷ TextTooLong unless (length text + 8 ≤ most) ∷ perhaps OutOfMemory ∷ [])

-- why bytes are not unwrapped into a vector
abbrev pub UnwrapRefused : List ℕ → List ℕ → Fault → Type 0
UnwrapRefused key wrapped = FirstOf (WrapLength unless HasWrappedLength wrapped
    ∷ perhaps OutOfMemory ∷ WrapIntegrity unless IsWrapping key wrapped ∷ [])

-- why a text is not wrapped in place, in bytes that begin with room for A
abbrev pub WrapInPlaceRefused : List ℕ → Fault → Type 0
WrapInPlaceRefused bytes = FirstOf (WrapLength unless HasWrappedLength bytes ∷ [])

-- why a text is not wrapped with padding
abbrev pub PaddedWrapRefused : List ℕ → Fault → Type 0
PaddedWrapRefused text = FirstOf (WrapLength unless (1 ≤ length text)
    ∷ TextTooLong unless (length text < 2 ^ 32) ∷ perhaps OutOfMemory ∷ [])

-- why bytes are not unwrapped with padding
abbrev pub PaddedUnwrapRefused : List ℕ → List ℕ → Fault → Type 0
PaddedUnwrapRefused key wrapped = FirstOf (WrapLength unless HasBlocks wrapped
    ∷ TextTooLong unless (length wrapped ≤ 2 ^ 32 + 8) ∷ perhaps OutOfMemory
    ∷ WrapIntegrity unless IsPaddedWrapping key wrapped ∷ [])

-- why a text of n bytes is not wrapped with padding in place
abbrev pub PaddedWrapInPlaceRefused : List ℕ → ℕ → Fault → Type 0
PaddedWrapInPlaceRefused bytes n = FirstOf (WrapLength unless HasPaddedRoom bytes n
    ∷ TextTooLong unless (n < 2 ^ 32) ∷ [])

-- why a text is not wrapped into another output
abbrev pub WrapToRefused : List ℕ → Fault → Type 0
WrapToRefused text = FirstOf (WrapLength unless HasTextLength text ∷ [])

-- why bytes are not unwrapped into another output, or in place
abbrev pub UnwrapToRefused : List ℕ → List ℕ → Fault → Type 0
UnwrapToRefused key wrapped = FirstOf (WrapLength unless HasWrappedLength wrapped
    ∷ WrapIntegrity unless IsWrapping key wrapped ∷ [])

-- why a text is not wrapped with padding into another output
abbrev pub PaddedWrapToRefused : List ℕ → Fault → Type 0
PaddedWrapToRefused text = FirstOf (WrapLength unless (1 ≤ length text)
    ∷ TextTooLong unless (length text < 2 ^ 32) ∷ [])

-- why bytes are not unwrapped with padding into another output, or in place
abbrev pub PaddedUnwrapToRefused : List ℕ → List ℕ → Fault → Type 0
PaddedUnwrapToRefused key wrapped = FirstOf (WrapLength unless HasBlocks wrapped
    ∷ TextTooLong unless (length wrapped ≤ 2 ^ 32 + 8) ∷ WrapIntegrity unless IsPaddedWrapping key wrapped ∷ [])

-- the output of a call that unwraps, on a fault: zeros if the bytes are not a valid wrapping, else unchanged
abbrev pub left_at : Fault → List ℕ → List ℕ
left_at WrapIntegrity output = replicate (length output) 0
left_at _ output = output
