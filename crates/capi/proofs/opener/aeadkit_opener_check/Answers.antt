use Rattle.std.proofs.Common.{◌≡◌, ◌∙◌, refl, sym, ap, subst, length}
use Rattle.std.proofs.lemmas.Option.{none-some, same_Some}
use Rattle.octets.specs.declared.fault.Fault.TheVariants.{TextTooLong}
use Rattle.aead.specs.Suites.{construction_of, text_limit_by}
use Rattle.aead.specs.Refusals.{FitsIn}
use Rattle.capi.proofs.Outcomes.{done_as}
use Rattle.capi.proofs.opener.aeadkit_opener_check.Goals as goal

pub returns-clause-holds : goal.returns-clause-holds
returns-clause-holds c = λ s tag bytes h.
    let same : c.in-Some.suite ≡ s.suite = same_Some _ _ ((c.in-Some.ensures s.suite).1 h.mark_is) in (
      c.check.result,
      (
        c.outcome_number.ensures,
        done_as c.check.result _ _ _
            (λ d. record { mark_is = h.mark_is; keys = h.keys; masks = h.masks; state = d.0 })
            (c.check.ensures.answer s tag bytes (c.keys-keys.ensures.keys s (sym same) h.keys) h.state),
      ),
    )

pub returns-clause-not_begun : goal.returns-clause-not_begun
returns-clause-not_begun c = λ none.
    absurd (none c.in-Some.suite ((c.in-Some.ensures c.in-Some.suite).0 refl))

pub returns-in_default-clause-holds : goal.returns-in_default-clause-holds
returns-in_default-clause-holds c = λ s tag bytes h.
    absurd (none-some s.suite ((c.in_default.ensures s.suite).1 h.mark_is))

pub returns-clause-status : goal.returns-clause-status
returns-clause-status c = λ suite is.
    let same : c.in-Some.suite ≡ suite = same_Some _ _ ((c.in-Some.ensures suite).1 is) in (
      c.check.result,
      (
        c.outcome_number.ensures,
        subst (FitsIn TextTooLong c.check.result c.args.opener.now.state.pass.length (length c.args.piece.now))
            (ap text_limit_by (c.keys-keys.ensures.by ∙ ap construction_of same)) c.check.ensures.fault,
      ),
    )
