-- The text of a ciphertext that is taken in part by part.
use Rattle.std.proofs.Common.{◌≡◌, ℕ, ◌+◌, List, [], ◌++◌, length, sym, ap, subst, ◌∙◌}
use Rattle.std.proofs.Common.{arith, length-append}
use Rattle.std.proofs.lemmas.List.{append_assoc, append-nil}
use Rattle.octets.specs.Masked.{masked}
use Rattle.aead.specs.Sealing.{Setting, mask_of}
use Rattle.aead.specs.Code.States.{HoldsAuthenticator}
use Rattle.aead.specs.Code.Masks.{TakesText}
use Rattle.aead.specs.declared.authenticator.Authenticator.{Authenticator}

-- the text of no bytes is taken in by doing nothing
pub no_text : {S H : Type 0} (made : S → Setting → List ℕ → ℕ → Type 0) (held : H → Setting → List ℕ → Type 0)
    (m : S) (a : Authenticator H) → TakesText made held m m a a []
no_text made held m a = λ s tag fed h k room.
    let same : fed ≡ fed ++ [] = sym (append-nil fed) in (
      subst (λ x. made m s tag (length x)) same h,
      subst (λ x. HoldsAuthenticator held a s (masked (mask_of s tag) 0 x)) same k,
    )

-- if the texts of two parts are taken in one after the other, the text of both joined is taken in
pub more_text : {S H : Type 0} (made : S → Setting → List ℕ → ℕ → Type 0) (held : H → Setting → List ℕ → Type 0)
    (m n o : S) (a b c : Authenticator H) (x y both : List ℕ) → TakesText made held m n a b x
    → TakesText made held n o b c y → x ++ y ≡ both → TakesText made held m o a c both
more_text made held m n o a b c x y both f g is = λ s tag fed h k room.
    let sum : length both ≡ length x + length y = ap length (sym is) ∙ length-append x y in
    let first = f s tag fed h k (omega (arith, room, sum)) in
    let second = g s tag (fed ++ x) first.0 first.1 (omega (arith, room, sum, length-append fed x)) in
    let all : (fed ++ x) ++ y ≡ fed ++ both = append_assoc fed x y ∙ ap (λ (z : List ℕ). fed ++ z) is in (
      subst (λ z. made o s tag (length z)) all second.0,
      subst (λ z. HoldsAuthenticator held c s (masked (mask_of s tag) 0 z)) all second.1,
    )
