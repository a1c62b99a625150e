-- Whether a record agrees, from what its sealed bytes hold.
use Rattle.std.proofs.Common.{◌≡◌, ℕ, ◌+◌, Bool, true, false, inl, inr, List, [], ◌∷◌, ◌++◌, Option, Some}
use Rattle.std.proofs.Common.{None, Result, Ok, Err, refl, sym, ap, ◌∙◌, subst}
use Rattle.std.specs.Prelude.{◌↔◌, IsTrue, IfOk, OnOk, if◌then◌else◌, is_some, not}
use Rattle.vectors.specs.Grammar.{Record}
use Rattle.vectors.specs.Agreement.{HoldsBy, Agrees, TextIs}
use Rattle.vectors.specs.declared.suite.Algorithm.{Algorithm}
use Rattle.vectors.specs.declared.digits.Digits.{Digits}
use Rattle.vectors.specs.Code.Views.{bytes_in, text_view}
use Rattle.vectors.specs.Code.Judging.{Judges}

-- after a record was judged and counted, the report is the one with that record too
pub judges : {E : Type 0} (result : Result (Unit {0}) E) (count more : ℕ) (bad worse : List ℕ) (r : Record)
    (b : Bool)
    → IsTrue b ↔ Agrees r
    → OnOk result (more ≡ count + 1) → OnOk result (worse ≡ (if b then bad else bad ++ (count + 1) ∷ []))
    → OnOk result (Judges count bad r more worse)
judges (Err e) count more bad worse r b h m w = tt
judges (Ok x) count more bad worse r true h m w = (m, inl (h.0 refl, w))
judges (Ok x) count more bad worse r false h m w =
    (m, inr (λ agrees. no (h.1 agrees), w ∙ ap (λ (k : ℕ). bad ++ k ∷ []) (sym m))) where
      no : false ≡ true → ⊥
      no e = cc

-- if P holds of no text, `TextIs P` is true if and only if the record has no text
pub none_is : (P : List ℕ → Type 0) (text : Option Digits) (b : Bool)
    → ((x : List ℕ) → ¬ P x) → is_some text ≡ not b → IsTrue b ↔ TextIs P (text_view text)
none_is P (Some d) true nothing e = absurd cc
none_is P (Some d) false nothing e = (λ t. absurd cc, λ p. absurd (nothing (bytes_in d) p))
none_is P None true nothing e = (λ t. nothing, λ p. refl)
none_is P None false nothing e = absurd cc

-- a result that says, under the record's own suite, whether the sealed bytes hold the text, says whether the record agrees
pub held_agrees : {E : Type 0} (e : Record) (b : Result Bool E) (suite : Algorithm) → e.suite ≡ suite
    → IfOk b (λ b. IsTrue b ↔ TextIs (HoldsBy suite e) e.text) → IfOk b (λ b. IsTrue b ↔ Agrees e)
held_agrees e b suite is h =
    subst (λ (u : Algorithm). IfOk b (λ b. IsTrue b ↔ TextIs (HoldsBy u e) e.text)) (sym is) h
