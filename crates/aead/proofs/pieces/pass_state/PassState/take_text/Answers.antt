use Rattle.std.proofs.Common.{◌+◌, ◌≤◌, ℕ, arith, length, subst}
use Rattle.aead.specs.Suites.{text_limit}
use Rattle.aead.proofs.pieces.pass_state.PassState.take_text.Goals as goal

pub returns-clause-takes : goal.returns-clause-takes
returns-clause-takes g c = λ s tag fed serves made long fits h.
    let P : ℕ → Type 0 = λ n. g.S.MaskStream.made c.args.mask.now s tag n in
    let room : length fed + length c.args.piece.now ≤ text_limit s.suite = omega (arith, fits, long) in
    let step = c.take_text.ensures.takes s tag fed (subst P long made) (c.authenticator-authenticator.ensures.holds s _ serves h) room in
    c.of.ensures.holds s _ h.secret_is step.1
