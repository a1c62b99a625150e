use Rattle.std.proofs.Common.{List, ℕ, subst, sym, ◌≡◌, ◌∙◌}
use Rattle.std.specs.Prelude.{◌↔◌, IsTrue}
use Rattle.keywrap.specs.Wrapping.{Unwrapped}
use Rattle.keywrap.specs.Padded.{UnwrappedPadded}
use Rattle.vectors.specs.declared.suite.Algorithm.{Algorithm}
use Rattle.vectors.specs.Code.Views.{entry_view}
use Rattle.vectors.specs.Agreement.{HoldsBy, TextIs}
use Rattle.vectors.proofs.agree.agrees.Goals as goal

pub returns-in_ok-sealed-in-Wrap : goal.returns-in_ok-sealed-in-Wrap
returns-in_ok-sealed-in-Wrap g c =
    let e = entry_view c.args.entry.now in
    let b = c.wrapping_agrees.result in
    let sealed : c.deref_mut.result.now ≡ e.sealed =
    c.deref_mut.ensures.value ∙ c.in_ok-sealed-in-Wrap.ensures in
    subst (λ (u : Algorithm). IsTrue b ↔ TextIs (HoldsBy u e) e.text) (sym c.in-Wrap.is)
    (subst (λ (k : List ℕ). IsTrue b ↔ TextIs (Unwrapped k e.sealed) e.text) c.aes_key.ensures
    (subst (λ (s : List ℕ). IsTrue b ↔ TextIs (Unwrapped c.aes_key.result s) e.text) sealed
    c.wrapping_agrees.ensures))

pub returns-in_ok-sealed-in-WrapPad : goal.returns-in_ok-sealed-in-WrapPad
returns-in_ok-sealed-in-WrapPad g c =
    let e = entry_view c.args.entry.now in
    let b = c.padded_wrapping_agrees.result in
    let sealed : c.deref_mut-in-WrapPad.result.now ≡ e.sealed =
    c.deref_mut-in-WrapPad.ensures.value ∙ c.in_ok-sealed-in-WrapPad.ensures in
    subst (λ (u : Algorithm). IsTrue b ↔ TextIs (HoldsBy u e) e.text) (sym c.in-WrapPad.is)
    (subst (λ (k : List ℕ). IsTrue b ↔ TextIs (UnwrappedPadded k e.sealed) e.text) c.aes_key-in-WrapPad.ensures
    (subst (λ (s : List ℕ). IsTrue b ↔ TextIs (UnwrappedPadded c.aes_key-in-WrapPad.result s) e.text) sealed
    c.padded_wrapping_agrees.ensures))
