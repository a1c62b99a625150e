use Rattle.std.proofs.Common.{◌+◌, ◌≤◌, ap, arith, length, length-append, ◌∙◌}
use Rattle.octets.specs.Masked.{masked}
use Rattle.aead.specs.Suites.{text_limit, text_limit_by}
use Rattle.aead.specs.Sealing.{mask_of}
use Rattle.aead.proofs.pieces.two_pass_state.TwoPassState.write.Goals as goal

pub returns-clause-answer : goal.returns-clause-answer
returns-clause-answer c = λ s first text k n knows.
    let room = c.has_room.ensures.fits c.if-not-has_room.false in
    let fits : c.args.self.now.pass.length + length c.args.piece.now ≤ text_limit s.suite =
    omega (arith, ap text_limit_by k.by, c.second_limit.ensures, room) in
    let within : length text + length c.args.piece.now ≤ length first =
    omega (arith, n.pass.length_is, n.first_is, c.second_limit.ensures, room) in
    let m = c.mask.ensures.masks s text k n.pass.length_is fits n.pass knows in (
      record {
        pass = m.0;
        start = n.start;
        tag_is = n.tag_is;
        first_is = n.first_is;
        first_fits = n.first_fits;
        within = omega (arith, length-append text c.args.piece.now, within);
      },
      m.1 ∙ ap (λ t. masked (mask_of s t) (length text) c.args.piece.now) n.tag_is,
      within,
      m.2,
    )
