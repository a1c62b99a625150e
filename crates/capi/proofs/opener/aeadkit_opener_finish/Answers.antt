use Rattle.std.proofs.Common.{◌≡◌, refl, sym}
use Rattle.std.proofs.lemmas.Option.{none-some, same_Some}
use Rattle.capi.proofs.Outcomes.{begun}
use Rattle.capi.proofs.opener.aeadkit_opener_finish.Goals as goal

pub returns-clause-holds : goal.returns-clause-holds
returns-clause-holds c = λ s tag first bytes h.
    let same : c.in-Some.suite ≡ s.suite = same_Some _ _ ((c.in-Some.ensures s.suite).1 h.mark_is) in
    let keys = c.keys-keys.ensures.keys s (sym same) h.keys in (
      c.end_pass-outcome.result,
      (c.outcome_number.ensures, c.end_pass-outcome.ensures.answer s tag first bytes keys h.masks h.state),
    )

pub returns-in_default-clause-holds : goal.returns-in_default-clause-holds
returns-in_default-clause-holds c = λ s tag first bytes h.
    absurd (none-some s.suite ((c.in_default.ensures s.suite).1 h.mark_is))

pub returns-clause-not_begun : goal.returns-clause-not_begun
returns-clause-not_begun c = λ none.
    absurd (none c.in-Some.suite ((c.in-Some.ensures c.in-Some.suite).0 refl))

pub returns-clause-kept : goal.returns-clause-kept
returns-clause-kept c = λ none. absurd (begun _ c.end_pass-outcome.result c.outcome_number.ensures none)

pub returns-clause-status : goal.returns-clause-status
returns-clause-status c = λ suite is. (c.end_pass-outcome.result, (c.outcome_number.ensures, c.end_pass-outcome.ensures.fault))
