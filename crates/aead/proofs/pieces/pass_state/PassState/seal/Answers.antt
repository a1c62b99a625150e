use Rattle.std.proofs.Common.{◌+◌, ◌≤◌, ◌++◌, [], ap, arith, length, length-append, replicate, ◌∙◌}
use Rattle.octets.specs.Masked.{masked}
use Rattle.aead.specs.Suites.{text_limit, text_limit_by}
use Rattle.aead.proofs.Opens.{same_mask}
use Rattle.aead.proofs.TakenIn.{any_tag, text_length}
use Rattle.aead.proofs.pieces.pass_state.PassState.seal.Goals as goal

pub returns-then-not-has_room-clause-answer : goal.returns-then-not-has_room-clause-answer
returns-then-not-has_room-clause-answer c = λ s text k one h _. (
  (h []).fits.aad_fits,
  λ fits. omega (
    arith,
    fits,
    length-append text c.args.piece.now,
    text_length c.args.self.now s text h,
    ap text_limit_by k.by,
    c.text_limit.ensures,
    c.has_room.ensures.past c.if-not-has_room.true,
  ),
)

pub returns-clause-answer : goal.returns-clause-answer
returns-clause-answer c = λ s text k one h knows.
    let fits : c.args.self.now.length + length c.args.piece.now ≤ text_limit s.suite =
    omega (arith, ap text_limit_by k.by, c.text_limit.ensures, c.has_room.ensures.fits c.if-not-has_room.false) in
    let within : length (text ++ c.args.piece.now) ≤ text_limit s.suite =
    omega (arith, length-append text c.args.piece.now, text_length c.args.self.now s text h, fits) in
    let zeros = replicate 16 0 in
    let m = c.mask.ensures.masks s text k (text_length c.args.self.now s text h) fits (h zeros) knows in (
      any_tag _ s zeros (text ++ c.args.piece.now) one m.0,
      λ tag. m.1 ∙ ap (λ f. masked f (length text) c.args.piece.now) (same_mask s zeros tag one),
      within,
      m.2,
    )
