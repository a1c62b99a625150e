-- The results of `wrap` and `unwrap` for values given as digits.
use Rattle.std.specs.Prelude.{◌≡◌, ℕ, ◌-◌, ◌^◌, ◌⊎◌, Bool, true, false, List, length, ⊤}
use Rattle.octets.specs.declared.fault.Fault.{Fault}
use Rattle.octets.specs.declared.fault.Fault.TheVariants.{KeyLength, OutOfMemory}
use Rattle.aes.specs.Cipher.{IsKey, IsKeyLength}
use Rattle.keywrap.specs.Padded.{UnwrappedPadded}
use Rattle.keywrap.specs.Refusals.{WrapRefused, UnwrapRefused, PaddedWrapRefused, PaddedUnwrapRefused}
use Rattle.keywrap.specs.Wrapping.{Unwrapped}
use Rattle.command.specs.declared.failure.Failure.{Failure}
use Rattle.command.specs.declared.failure.Failure.TheVariants.{BadHex, Fault as OfFault}
use Rattle.command.specs.Hex.{Spells, IsBadHex}

-- under a key, wrapped is the wrapping of a text, with padding (RFC 5649) or without (RFC 3394)
abbrev pub Wraps : Bool → List ℕ → List ℕ → List ℕ → Type 0
Wraps true key wrapped text = UnwrappedPadded key wrapped text
Wraps false key wrapped text = Unwrapped key wrapped text

-- the values spell a key and a text or a wrapping, and P holds of these
pub record IsSpelledPair (P : List ℕ → List ℕ → Type 0) (key body : List ℕ) : Type 0 where
  pub key_bytes : List ℕ
  pub body_bytes : List ℕ
  pub key_is : Spells key key_bytes
  pub body_is : Spells body body_bytes
  pub is : P key_bytes body_bytes

-- the values spell an AES key and a text or a wrapping, and P holds of these
abbrev pub IsWrapCall : (List ℕ → List ℕ → Type 0) → List ℕ → List ℕ → Type 0
IsWrapCall P key body = IsSpelledPair (λ k b. IsKey k × P k b) key body

-- wrapped is the wrapping of the text that is spelled, under the key that is spelled
abbrev pub IsWrapped : Bool → List ℕ → List ℕ → List ℕ → Type 0
IsWrapped pad key text wrapped = IsWrapCall (λ k t. Wraps pad k wrapped t) key text

-- the wrapping that is spelled is that of the text, under the key that is spelled
abbrev pub IsUnwrapped : Bool → List ℕ → List ℕ → List ℕ → Type 0
IsUnwrapped pad key sealed text = IsWrapCall (λ k w. Wraps pad k w text) key sealed

-- why the values don't give the inputs of a call: one is not hexadecimal, or the key doesn't have the length of an AES key
abbrev pub WrapInputsRefused : List ℕ → List ℕ → Failure → Type 0
WrapInputsRefused key body BadHex = IsBadHex key ⊎ IsBadHex body
WrapInputsRefused key body (OfFault KeyLength) = IsSpelledPair (λ k b. ¬ IsKeyLength (length k)) key body
WrapInputsRefused key body (OfFault OutOfMemory) = ⊤
WrapInputsRefused key body _ = ⊥

-- the call refuses the bytes that are spelled, for this reason
pub record WrapCallRefused (refused : List ℕ → List ℕ → Fault → Type 0) (key body : List ℕ) (e : Failure)
    : Type 0 where
  pub fault : Fault
  pub is : e ≡ OfFault fault
  pub why : IsWrapCall (λ k b. refused k b fault) key body

-- why the values have no result
abbrev pub IsWrapRefused : (List ℕ → List ℕ → Fault → Type 0) → List ℕ → List ℕ → Failure → Type 0
IsWrapRefused refused key body e = WrapInputsRefused key body e ⊎ WrapCallRefused refused key body e

-- why wrapping into a vector is refused, under any key
abbrev pub WrapFault : Bool → List ℕ → List ℕ → Fault → Type 0
WrapFault true key text fault = PaddedWrapRefused text fault
WrapFault false key text fault = WrapRefused (2 ^ 64 - 1) text fault

-- why unwrapping into a vector is refused
abbrev pub UnwrapFault : Bool → List ℕ → List ℕ → Fault → Type 0
UnwrapFault true key wrapped fault = PaddedUnwrapRefused key wrapped fault
UnwrapFault false key wrapped fault = UnwrapRefused key wrapped fault
