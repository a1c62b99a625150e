use Rattle.std.proofs.Common.{refl, sym, subst, arith, ◌∙◌}
use Rattle.aead.specs.declared.pieces.pass_state.SumWords.{SumWords}
use Rattle.aead.specs.PassStates.{IsStart}
use Rattle.aead.proofs.TakenIn.{taken_none, taken_length, taken_fits}
use Rattle.aead.proofs.pieces.two_pass_state.TwoPassState.begin_second_pass.Goals as goal

pub returns-clause-answer : goal.returns-clause-answer
returns-clause-answer c = λ s tag body k bytes first.
    let n = first.pass in
    let sealing = c.is_sealing.ensures.sealing s tag body k bytes n c.if-not-is_sealing.false in
    let next = c.second.ensures in (
      record {
        pass = record {
          pass = taken_none _ s tag (next.pass s _ n.pass n.start);
          start = subst (λ (x : SumWords). IsStart x s) (sym next.start) n.start;
          tag_is = next.tag ∙ n.tag_is;
          tag_long = n.tag_long;
          small = λ i. omega arith;
        };
        first_is = next.first ∙ taken_length _ s tag body n.pass;
        first_fits = (taken_fits _ s tag body n.pass).text_fits;
        within = omega arith;
        passed = (body, refl, sealing);
      },
      sealing,
    )
