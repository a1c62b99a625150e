use Rattle.std.proofs.Common.{◌≡◌, ℕ, List, sym, ap, subst, arith, length, ◌∙◌}
use Rattle.std.proofs.lemmas.Grind.{common_steps}
use Rattle.aead.specs.Suites.{Construction}
use Rattle.aead.specs.PassStates.{IsMessageSecret}
use Rattle.aead.proofs.pieces.aes_pass.initial_state.Goals as goal

pub returns-then-is_empty : goal.returns-then-is_empty
returns-then-is_empty g c = λ s by keyed aad fits.
    let none : length c.args.aad.now ≡ 0 = grind (arith, common_steps, c.is_empty.ensures, c.if-is_empty.true) in
    let held = subst (λ (x : Construction). IsMessageSecret x c.args.secret s) (sym by) keyed in
    c.empty.ensures s held (ap (λ (m : List ℕ). length m) aad ∙ none)
