use Rattle.std.proofs.Common.{◌+◌, ◌≤◌, ℕ, length, subst, arith}
use Rattle.aead.specs.Suites.{text_limit}
use Rattle.aead.proofs.pieces.pass_state.PassState.step.Goals as goal

pub returns-clause-masks : goal.returns-clause-masks
returns-clause-masks g c = λ s tag fed serves made long fits h.
    let room : length fed + length c.args.piece.now ≤ text_limit s.suite = omega (arith, fits, long) in
    let P : ℕ → Type 0 = λ n. g.S.MaskStream.made c.args.mask.now s tag n in
    let step = c.step.ensures.step s tag fed (subst P long made) (c.authenticator-authenticator.ensures.holds s _ serves h) room in
    (c.of.ensures.holds s _ h.secret_is step.1, step.2)

pub returns-clause-mask : goal.returns-clause-mask
returns-clause-mask g c = λ s tag fed serves made long fits h.
    let room : length fed + length c.args.piece.now ≤ text_limit s.suite = omega (arith, fits, long) in
    let P : ℕ → Type 0 = λ n. g.S.MaskStream.made c.args.mask.now s tag n in
    (c.step.ensures.step s tag fed (subst P long made) (c.authenticator-authenticator.ensures.holds s _ serves h) room).0
