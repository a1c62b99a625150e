use Rattle.std.proofs.Common.{◌≡◌, ◌+◌, ◌∙◌, refl, sym, ap, Ok, Err}
use Rattle.std.proofs.lemmas.Option.{none-some, same_Some}
use Rattle.aead.specs.Suites.{suite_number}
use Rattle.capi.specs.Openers.{opening}
use Rattle.capi.proofs.Outcomes.{begun, not_zero}
use Rattle.capi.proofs.opener.aeadkit_opener_begin_second.Goals as goal

pub returns-in-Ok-clause-holds : goal.returns-in-Ok-clause-holds
returns-in-Ok-clause-holds c = λ s tag bytes h.
    let same : c.in-Some.suite ≡ s.suite = same_Some _ _ ((c.in-Some.ensures s.suite).1 h.mark_is) in
    let passed = c.in-Ok.ensures.answer s tag bytes (c.keys-keys.ensures.keys s (sym same) h.keys) h.masks h.state in (
      Ok tt,
      (
        c.outcome_number.ensures,
        (
          record {
            mark_is = c.mark_of-opener.ensures ∙ ap (λ x. opening + suite_number x) same;
            keys = h.keys;
            masks = h.masks;
            state = passed.0;
          },
          passed.1,
        ),
      ),
    )

pub returns-in-Err-clause-holds : goal.returns-in-Err-clause-holds
returns-in-Err-clause-holds c = λ s tag bytes h.
    let same : c.in-Some.suite ≡ s.suite = same_Some _ _ ((c.in-Some.ensures s.suite).1 h.mark_is) in
    let keys = c.keys-keys.ensures.keys s (sym same) h.keys in
    (Err c.in-Err.fault, (c.outcome_number-in-Err.ensures, c.in-Err.ensures.answer s tag bytes keys h.masks h.state))

pub returns-in_default-clause-holds : goal.returns-in_default-clause-holds
returns-in_default-clause-holds c = λ s tag bytes h.
    absurd (none-some s.suite ((c.in_default.ensures s.suite).1 h.mark_is))

pub returns-in-Ok-clause-not_begun : goal.returns-in-Ok-clause-not_begun
returns-in-Ok-clause-not_begun c = λ none.
    absurd (none c.in-Some.suite ((c.in-Some.ensures c.in-Some.suite).0 refl))

pub returns-in-Err-clause-not_begun : goal.returns-in-Err-clause-not_begun
returns-in-Err-clause-not_begun c = λ none.
    absurd (none c.in-Some.suite ((c.in-Some.ensures c.in-Some.suite).0 refl))

pub returns-in-Err-clause-same_keys : goal.returns-in-Err-clause-same_keys
returns-in-Err-clause-same_keys c = λ zero. absurd (not_zero c.in-Err.fault (sym c.outcome_number-in-Err.ensures ∙ zero))

pub returns-in-Err-clause-kept : goal.returns-in-Err-clause-kept
returns-in-Err-clause-kept c = λ none. absurd (begun _ (Err c.in-Err.fault) c.outcome_number-in-Err.ensures none)

pub returns-in-Ok-clause-status : goal.returns-in-Ok-clause-status
returns-in-Ok-clause-status c = λ suite is.
    let same : c.in-Some.suite ≡ suite = same_Some _ _ ((c.in-Some.ensures suite).1 is) in
    (Ok tt, (c.outcome_number.ensures, c.mark_of-opener.ensures ∙ ap (λ x. opening + suite_number x) same))

pub returns-in-Err-clause-status : goal.returns-in-Err-clause-status
returns-in-Err-clause-status c = λ suite is.
    (Err c.in-Err.fault, (c.outcome_number-in-Err.ensures, c.in-Err.ensures.fault))
