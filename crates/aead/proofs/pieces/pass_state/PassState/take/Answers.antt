use Rattle.std.proofs.Common.{◌+◌, ◌≤◌, arith, length}
use Rattle.aead.specs.Suites.{text_limit}
use Rattle.aead.proofs.pieces.pass_state.PassState.take.Goals as goal

pub returns-clause-takes : goal.returns-clause-takes
returns-clause-takes g c = λ s bytes serves fits h.
    let room : length bytes + length c.args.piece.now ≤ text_limit s.suite = omega (arith, fits, h.length_is) in
    c.of.ensures.holds s _ h.secret_is
    (c.update.ensures.holds s bytes (c.authenticator-authenticator.ensures.holds s bytes serves h) room)
