use Rattle.std.proofs.Common.{sym, ap, subst, arith, ◌∙◌}
use Rattle.aead.specs.declared.pieces.pass_state.SumWords.{SumWords}
use Rattle.aead.specs.Suites.{is_one_pass}
use Rattle.aead.specs.PassStates.{IsStart}
use Rattle.aead.proofs.Opens.{two_pass_tag}
use Rattle.aead.proofs.pieces.two_pass_state.TwoPassState.begin_second_reading.Goals as goal

pub returns : goal.returns
returns c = λ s text by k n.
    let tag_is = c.tag-tag.ensures s text k n.pass ∙ sym (two_pass_tag s text (ap is_one_pass by)) in
    let next = c.second.ensures in (
      tag_is,
      record {
        pass = next.pass s text n.pass n.start;
        start = subst (λ (x : SumWords). IsStart x s) (sym next.start) n.start;
        tag_is = next.tag ∙ c.bytes.ensures.value ∙ tag_is;
        first_is = next.first ∙ n.pass.length_is;
        first_fits = n.pass.fits.text_fits;
        within = omega arith;
      },
    )
