use Rattle.std.proofs.Common.{◌+◌, ◌≤◌, ◌++◌, List, ℕ, ap, sym, subst, arith, length, length-append}
use Rattle.aead.specs.Suites.{text_limit, text_limit_by}
use Rattle.aead.specs.Pieces.{HasTakenIn}
use Rattle.aead.proofs.TakenIn.{taken_length}
use Rattle.aead.proofs.Passing.{small-append}
use Rattle.aead.proofs.pieces.two_pass_state.TwoPassState.check.Goals as goal

pub returns-then-not-has_room-clause-answer : goal.returns-then-not-has_room-clause-answer
returns-then-not-has_room-clause-answer c = λ s tag body k n. (
  n.pass.pass.fits.aad_fits,
  λ fits. omega (
    arith,
    fits,
    length-append body c.args.piece.now,
    taken_length c.args.self.now.pass s tag body n.pass.pass,
    ap text_limit_by k.by,
    c.text_limit.ensures,
    c.has_room.ensures.past c.if-not-has_room.true,
  ),
)

pub returns-clause-answer : goal.returns-clause-answer
returns-clause-answer c = λ s tag body k first.
    let n = first.pass in
    let fits : c.args.self.now.pass.length + length c.args.piece.now ≤ text_limit s.suite =
    omega (arith, ap text_limit_by k.by, c.text_limit.ensures, c.has_room.ensures.fits c.if-not-has_room.false) in
    let taken = c.check.ensures s body k fits
    (subst (λ (t : List ℕ). HasTakenIn c.args.self.now.pass s t body) (sym n.tag_is) n.pass) in (
      record {
        pass = record {
          pass = subst (λ (t : List ℕ). HasTakenIn c.check.new.state s t (body ++ c.args.piece.now)) n.tag_is taken;
          start = n.start;
          tag_is = n.tag_is;
          tag_long = n.tag_long;
          small = small-append body c.args.piece.now n.small (λ i. (c.type_inv.piece i).fits);
        };
        first_is = first.first_is;
      },
      omega (arith, length-append body c.args.piece.now, taken_length c.args.self.now.pass s tag body n.pass, fits),
    )
