use Rattle.std.proofs.Common.{[], sym, subst}
use Rattle.aead.specs.PassStates.{HoldsNumbers}
use Rattle.aead.proofs.pieces.two_pass_state.TwoPassState.first_reading.Goals as goal

pub returns : goal.returns
returns c = λ s h. record {
  pass = subst (λ n. HoldsNumbers n s []) (sym c.first.ensures.pass) h;
  start = c.first.ensures.start s h;
  tag_is = c.first.ensures.tag;
  first_is = c.first.ensures.none;
}
