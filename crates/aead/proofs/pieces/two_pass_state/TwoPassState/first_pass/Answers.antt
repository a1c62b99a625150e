use Rattle.std.proofs.Common.{[], sym, subst, arith}
use Rattle.aead.specs.Pieces.{HasTakenIn}
use Rattle.aead.proofs.TakenIn.{taken_none}
use Rattle.aead.proofs.pieces.two_pass_state.TwoPassState.first_pass.Goals as goal

pub returns : goal.returns
returns c = λ s h. record {
  pass = record {
    pass = subst (λ n. HasTakenIn n s c.args.tag.now []) (sym c.first.ensures.pass) (taken_none _ s c.args.tag.now h);
    start = c.first.ensures.start s h;
    tag_is = c.first.ensures.tag;
    tag_long = omega arith;
    small = λ i. omega arith;
  };
  first_is = c.first.ensures.none;
}
