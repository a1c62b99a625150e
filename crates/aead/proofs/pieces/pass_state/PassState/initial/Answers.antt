use Rattle.std.proofs.Common.{[], refl, sym, subst}
use Rattle.aead.specs.Suites.{construction_of}
use Rattle.aead.proofs.PassStates.{no_sum}
use Rattle.aead.proofs.pieces.pass_state.PassState.initial.Goals as goal

pub returns : goal.returns
returns g c = λ s serves keyed aad fits.
    let held = c.resumed.ensures s [] serves keyed (no_sum (construction_of s.suite) s) refl in
    c.of.ensures.holds s [] keyed
    (c.begin.ensures.holds s aad fits (subst (λ h. g.K.Hash.TagHash.held h s []) (sym c.empty-authenticator.ensures.0) held))
