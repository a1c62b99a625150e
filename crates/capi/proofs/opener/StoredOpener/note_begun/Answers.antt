use Rattle.std.proofs.Common.{◌+◌, ◌∙◌, sym, ap, subst, Ok, Err, IfOk, MatchResult}
use Rattle.aead.specs.Pieces.{MasksByBytes}
use Rattle.aead.specs.KeyedPasses.{BeginRefused, HasBegun}
use Rattle.aead.specs.Suites.{suite_number}
use Rattle.capi.specs.Openers.{checking}
use Rattle.capi.proofs.opener.StoredOpener.note_begun.Goals as goal

pub returns-in-Ok-clause-begins : goal.returns-in-Ok-clause-begins
returns-in-Ok-clause-begins c = λ s same bytes h.
    let begun = subst (λ r. MatchResult r (λ _. HasBegun c.args.self.now.keys c.args.self.now.state.pass s)
    (BeginRefused s)) c.in-Ok.is h in (
      Ok tt,
      (
        c.outcome_number.ensures,
        record {
          mark_is = c.mark_of-self.ensures ∙ ap (λ x. checking + suite_number x) (sym same);
          keys = begun.0;
          masks = subst (λ r. IfOk r (λ _. MasksByBytes s)) c.in-Ok.is bytes;
          state = c.first_pass-self.ensures s begun.1;
        },
      ),
    )

pub returns-in-Err-clause-begins : goal.returns-in-Err-clause-begins
returns-in-Err-clause-begins c = λ s same bytes h. (
  Err c.in-Err.fault,
  (
    c.outcome_number-in-Err.ensures,
    subst (λ r. MatchResult r (λ _. HasBegun c.args.self.now.keys c.args.self.now.state.pass s) (BeginRefused s))
        c.in-Err.is h,
  ),
)
