use Rattle.std.proofs.Common.{◌+◌, ◌≤◌, ap, arith, length, length-append}
use Rattle.aead.specs.Suites.{text_limit, text_limit_by}
use Rattle.aead.proofs.pieces.two_pass_state.TwoPassState.absorb.Goals as goal

pub returns-then-not-has_room-clause-answer : goal.returns-then-not-has_room-clause-answer
returns-then-not-has_room-clause-answer c = λ s text k n. (
  n.pass.fits.aad_fits,
  λ fits. omega (
    arith,
    fits,
    length-append text c.args.piece.now,
    n.pass.length_is,
    ap text_limit_by k.by,
    c.text_limit.ensures,
    c.has_room.ensures.past c.if-not-has_room.true,
  ),
)

pub returns-clause-answer : goal.returns-clause-answer
returns-clause-answer c = λ s text k n.
    let fits : c.args.self.now.pass.length + length c.args.piece.now ≤ text_limit s.suite =
    omega (arith, ap text_limit_by k.by, c.text_limit.ensures, c.has_room.ensures.fits c.if-not-has_room.false) in (
      record { pass = c.take.ensures.takes s text k fits n.pass; start = n.start; tag_is = n.tag_is; first_is = n.first_is },
      omega (arith, length-append text c.args.piece.now, n.pass.length_is, fits),
    )
