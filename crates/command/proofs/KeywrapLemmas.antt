-- `wrap` and `unwrap` on the bytes that their values spell.
use Rattle.std.proofs.Common.{◌≡◌, ℕ, List, length, refl}
use Rattle.octets.specs.declared.fault.Fault.{Fault}
use Rattle.octets.specs.declared.fault.Fault.TheVariants.{KeyLength}
use Rattle.aes.specs.Cipher.{IsKeyLength}
use Rattle.command.specs.declared.failure.Failure.TheVariants.{Fault as OfFault}
use Rattle.command.specs.Hex.{Spells}
use Rattle.command.specs.Keywrap.{IsSpelledPair, IsWrapCall, WrapInputsRefused, WrapCallRefused}

-- if P holds of the bytes that two values spell, it holds of the values as a pair
pub spelled_pair : (P : List ℕ → List ℕ → Type 0) (key body k b k' b' : List ℕ) → Spells key k
    → Spells body b → k' ≡ k → b' ≡ b → P k' b' → IsSpelledPair P key body
spelled_pair P key body k b k' b' key_is body_is at_key at_body h = record {
  key_bytes = k';
  body_bytes = b';
  key_is = rw at_key key_is;
  body_is = rw at_body body_is;
  is = h;
}

-- a key that does not have the length of an AES key is refused
pub key_refused : (key body k b k' : List ℕ) (f : Fault) → Spells key k → Spells body b → k' ≡ k
    → f ≡ KeyLength → ¬ IsKeyLength (length k') → WrapInputsRefused key body (OfFault f)
key_refused key body k b k' f key_is body_is at_key at_fault h =
    rw at_fault (spelled_pair (λ k b. ¬ IsKeyLength (length k)) key body k b k' b key_is body_is at_key refl h)

-- if the call refuses the bytes that the values spell, it refuses the values
pub call_refused : (refused : List ℕ → List ℕ → Fault → Type 0) (key body : List ℕ) (f : Fault)
    → IsWrapCall (λ k b. refused k b f) key body → WrapCallRefused refused key body (OfFault f)
call_refused refused key body f h = record { fault = f; is = refl; why = h }
