use Rattle.std.proofs.Common.{◌≡◌, refl, sym}
use Rattle.std.proofs.lemmas.Option.{same_Some}
use Rattle.capi.proofs.Outcomes.{begun}
use Rattle.capi.proofs.siv.aeadkit_siv_finish.Goals as goal

pub returns-clause-holds : goal.returns-clause-holds
returns-clause-holds c = λ s first text h.
    let same : c.in-Some.suite ≡ s.suite =
    same_Some _ _ ((c.in-Some.ensures s.suite).1 (h.by_gcm_siv, h.mark_is)) in
    let keys = c.keys-keys.ensures.keys s (sym same) h.keys in (
      c.end_reading-outcome.result,
      (c.outcome_number.ensures, c.end_reading-outcome.ensures.answer s first text h.by_gcm_siv keys h.state),
    )

pub returns-clause-not_begun : goal.returns-clause-not_begun
returns-clause-not_begun c = λ none.
    let found = (c.in-Some.ensures c.in-Some.suite).0 refl in
    absurd (none c.in-Some.suite found.0 found.1)

pub returns-clause-kept : goal.returns-clause-kept
returns-clause-kept c = λ none. absurd (begun _ c.end_reading-outcome.result c.outcome_number.ensures none)

pub returns-clause-status : goal.returns-clause-status
returns-clause-status c = λ suite by is.
    (c.end_reading-outcome.result, (c.outcome_number.ensures, c.end_reading-outcome.ensures.fault))
