use Rattle.std.proofs.Common.{◌≡◌, ◌+◌, ◌≤◌, ◌<◌, ◌++◌, ◌∙◌, ℕ, List, refl, sym, ap, subst, arith, get_or, length}
use Rattle.std.proofs.Common.{length-append}
use Rattle.octets.specs.Masked.{masked}
use Rattle.octets.proofs.Masks.{masked_twice}
use Rattle.aead.specs.Suites.{text_limit, text_limit_by}
use Rattle.aead.specs.Sealing.{mask_of}
use Rattle.aead.specs.KeyedPasses.{KnowsCipherOf}
use Rattle.aead.specs.Pieces.{HasTakenIn}
use Rattle.aead.proofs.ByteMasks.{masked_small}
use Rattle.aead.proofs.TakenIn.{taken_length}
use Rattle.aead.proofs.Passing.{small-append}
use Rattle.aead.proofs.pieces.two_pass_state.TwoPassState.open.Goals as goal

pub returns-then-not-has_room-clause-answer : goal.returns-then-not-has_room-clause-answer
returns-then-not-has_room-clause-answer c = λ s tag first body k bytes n _. (
  refl,
  omega (
    arith,
    length-append body c.args.piece.now,
    taken_length c.args.self.now.pass s tag body n.pass.pass,
    n.first_is,
    n.first_fits,
    c.second_limit.ensures,
    ap text_limit_by k.by,
    c.has_room.ensures.past c.if-not-has_room.true,
  ),
)

pub returns-clause-answer : goal.returns-clause-answer
returns-clause-answer c = λ s tag first body k bytes n knows.
    let h = n.pass in
    let p = c.args.self.now.pass in
    let fits : p.length + length c.args.piece.now ≤ text_limit s.suite =
    omega (arith, ap text_limit_by k.by, c.second_limit.ensures, c.has_room.ensures.fits c.if-not-has_room.false) in
    let m = subst (λ (t : List ℕ). HasTakenIn c.open.new.state s t (body ++ c.args.piece.now)
    × (c.open.new.piece ≡ masked (mask_of s t) (length body) c.args.piece.now) × KnowsCipherOf c.open.new.known s) h.tag_is
    (c.open.ensures s body k fits (subst (λ (t : List ℕ). HasTakenIn p s t body) (sym h.tag_is) h.pass) knows) in
    let mask : ℕ → ℕ = mask_of s tag in
    let at : ℕ = length body in
    let again : masked mask at c.open.new.piece ≡ c.args.piece.now =
    ap (masked mask at) m.1 ∙ masked_twice mask at c.args.piece.now in
    let came : (i : ℕ) → get_or c.args.piece.now i 0 < 256 =
    subst (λ (x : List ℕ). (i : ℕ) → get_or x i 0 < 256) again
    (masked_small mask at c.open.new.piece (λ i. (c.type_inv.piece i).fits) (bytes tag)) in
    let within : length (body ++ c.args.piece.now) ≤ first =
    omega (
      arith,
      length-append body c.args.piece.now,
      taken_length p s tag body h.pass,
      n.first_is,
      c.has_room.ensures.fits c.if-not-has_room.false,
    ) in (
      record {
        pass = record {
          pass = m.0;
          start = h.start;
          tag_is = h.tag_is;
          tag_long = h.tag_long;
          small = small-append body c.args.piece.now h.small came;
        };
        first_is = n.first_is;
        first_fits = n.first_fits;
        within = within;
        passed = n.passed;
      },
      m.1,
      n.passed,
      within,
      m.2,
    )
