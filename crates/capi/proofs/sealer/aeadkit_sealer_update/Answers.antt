use Rattle.std.proofs.Common.{◌≡◌, ◌∙◌, refl, sym, ap, subst, length}
use Rattle.std.proofs.lemmas.Option.{same_Some}
use Rattle.octets.specs.declared.fault.Fault.TheVariants.{TextTooLong}
use Rattle.aead.specs.Suites.{construction_of, text_limit_by}
use Rattle.aead.specs.Refusals.{FitsIn}
use Rattle.capi.proofs.Outcomes.{done_as}
use Rattle.capi.proofs.sealer.aeadkit_sealer_update.Goals as goal

pub returns-clause-holds : goal.returns-clause-holds
returns-clause-holds c = λ s text h.
    let same : c.in-Some.suite ≡ s.suite =
    same_Some _ _ ((c.in-Some.ensures s.suite).1 (h.one_pass, h.mark_is)) in (
      c.seal.result,
      (
        c.outcome_number.ensures,
        done_as c.seal.result _ _ _
            (λ d. (record { mark_is = h.mark_is; one_pass = h.one_pass; keys = h.keys; state = d.0 }, d.1))
            (c.seal.ensures.answer s text (c.keys.ensures.keys s (sym same) h.keys) h.one_pass h.state
            (c.none-known.ensures _)),
      ),
    )

pub returns-clause-not_begun : goal.returns-clause-not_begun
returns-clause-not_begun c = λ none.
    let found = (c.in-Some.ensures c.in-Some.suite).0 refl in
    absurd (none c.in-Some.suite found.0 found.1)

pub returns-clause-status : goal.returns-clause-status
returns-clause-status c = λ suite one is.
    let same : c.in-Some.suite ≡ suite = same_Some _ _ ((c.in-Some.ensures suite).1 (one, is)) in (
      c.seal.result,
      (
        c.outcome_number.ensures,
        subst (FitsIn TextTooLong c.seal.result c.args.sealer.now.state.length (length c.args.piece.now))
            (ap text_limit_by (c.keys.ensures.by ∙ ap construction_of same)) c.seal.ensures.fault,
      ),
    )
