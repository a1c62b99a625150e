-- The suite of a mark, if it passes a test.
use Rattle.std.proofs.Common.{◌≡◌, ◌↔◌, ◌∙◌, ℕ, sym, subst, true, ap, true≢false, Option, Some, None}
use Rattle.std.proofs.lemmas.Option.{none-some, same_Some}
use Rattle.aead.specs.declared.suite.Suite.{Suite}
use Rattle.aead.specs.declared.suite.Construction.TheVariants.{GcmSiv as ByGcmSiv}
use Rattle.aead.specs.Suites.{construction_of, is_one_pass, suite_number}

-- a suite was found and passes the test
pub passed : (T P : Suite → Type 0) (r : Option Suite) (s : Suite)
    → ((t : Suite) → (r ≡ Some t) ↔ P t) → r ≡ Some s → T s
    → (t : Suite) → (Some s ≡ Some t) ↔ (T t × P t)
passed T P r s law is holds t = (
  λ same. (subst T (same_Some s t same) holds, (law t).0 (is ∙ same)),
  λ h. sym is ∙ (law t).1 h.1,
)

-- a suite was found and fails the test
pub failed : (T P : Suite → Type 0) (r : Option Suite) (s : Suite)
    → ((t : Suite) → (r ≡ Some t) ↔ P t) → r ≡ Some s → (T s → ⊥)
    → (t : Suite) → (None ≡ Some t) ↔ (T t × P t)
failed T P r s law is fails t = (
  λ same. absurd (none-some t same),
  λ h. absurd (fails (subst T (sym (same_Some s t (sym is ∙ (law t).1 h.1))) h.0)),
)

-- no suite was found
pub unknown : (T P : Suite → Type 0) (r : Option Suite)
    → ((t : Suite) → (r ≡ Some t) ↔ P t) → r ≡ None
    → (t : Suite) → (None ≡ Some t) ↔ (T t × P t)
unknown T P r law is t = (λ same. absurd (none-some t same), λ h. sym is ∙ (law t).1 h.1)

-- no suite is one of AES-GCM-SIV and has its tag over the ciphertext
pub not_both : (s : Suite) → construction_of s ≡ ByGcmSiv → is_one_pass (construction_of s) ≡ true → ⊥
not_both s siv one = true≢false (sym one ∙ ap is_one_pass siv)
