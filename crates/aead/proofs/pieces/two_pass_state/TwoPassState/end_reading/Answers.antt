use Rattle.std.proofs.Common.{◌∙◌, refl, sym, true≢false}
use Rattle.aead.proofs.pieces.two_pass_state.TwoPassState.end_reading.Goals as goal

pub returns-then-repeats-clause-answer : goal.returns-then-repeats-clause-answer
returns-then-repeats-clause-answer c = λ s first text by k n.
    (c.repeats.ensures s first text by k n.first_is n.tag_is n.pass).0 c.if-repeats.true

pub returns-else-repeats-clause-answer : goal.returns-else-repeats-clause-answer
returns-else-repeats-clause-answer c = λ s first text by k n. (
  refl,
  λ r. true≢false
      (sym ((c.repeats.ensures s first text by k n.first_is n.tag_is n.pass).1 r) ∙ c.if-repeats.false),
)
