use Rattle.std.proofs.Common.{◌+◌, ◌∙◌, sym, ap, subst, Ok, Err, MatchResult}
use Rattle.aead.specs.KeyedPasses.{BeginRefused, HasBegun}
use Rattle.aead.specs.Suites.{construction_of, suite_number}
use Rattle.capi.specs.Sivs.{absorbing}
use Rattle.capi.proofs.siv.StoredSiv.note_begun.Goals as goal

pub returns-in-Ok-clause-begins : goal.returns-in-Ok-clause-begins
returns-in-Ok-clause-begins c = λ s same by h.
    let begun = subst (λ r. MatchResult r (λ _. HasBegun c.args.self.now.keys c.args.self.now.state.pass s)
    (BeginRefused s)) c.in-Ok.is h in (
      Ok tt,
      (
        c.outcome_number.ensures,
        record {
          mark_is = c.mark_of-self.ensures ∙ ap (λ x. absorbing + suite_number x) (sym same);
          by_gcm_siv = ap construction_of same ∙ by;
          keys = begun.0;
          state = c.first_reading-self.ensures s begun.1;
        },
      ),
    )

pub returns-in-Err-clause-begins : goal.returns-in-Err-clause-begins
returns-in-Err-clause-begins c = λ s same by h. (
  Err c.in-Err.fault,
  (
    c.outcome_number-in-Err.ensures,
    subst (λ r. MatchResult r (λ _. HasBegun c.args.self.now.keys c.args.self.now.state.pass s) (BeginRefused s))
        c.in-Err.is h,
  ),
)
