use Rattle.std.proofs.Common.{◌≡◌, ◌+◌, ◌∙◌, refl, sym, ap}
use Rattle.std.proofs.lemmas.Option.{same_Some}
use Rattle.aead.specs.Suites.{suite_number}
use Rattle.capi.specs.Sivs.{writing}
use Rattle.capi.proofs.siv.aeadkit_siv_begin_second.Goals as goal

pub returns-clause-holds : goal.returns-clause-holds
returns-clause-holds c = λ s text h.
    let same : c.in-Some.suite ≡ s.suite =
    same_Some _ _ ((c.in-Some.ensures s.suite).1 (h.by_gcm_siv, h.mark_is)) in
    let ended = c.begin_second_reading.ensures s text h.by_gcm_siv (c.keys-keys.ensures.keys s (sym same) h.keys) h.state in (
      refl,
      c.bytes.ensures.value ∙ ended.0,
      record {
        mark_is = c.mark_of-siv.ensures ∙ ap (λ x. writing + suite_number x) same;
        by_gcm_siv = h.by_gcm_siv;
        keys = h.keys;
        state = ended.1;
      },
    )

pub returns-clause-not_begun : goal.returns-clause-not_begun
returns-clause-not_begun c = λ none.
    let found = (c.in-Some.ensures c.in-Some.suite).0 refl in
    absurd (none c.in-Some.suite found.0 found.1)
