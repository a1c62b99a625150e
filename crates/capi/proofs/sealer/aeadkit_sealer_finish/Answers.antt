use Rattle.std.proofs.Common.{◌≡◌, ◌∙◌, refl, sym}
use Rattle.std.proofs.lemmas.Option.{same_Some}
use Rattle.capi.proofs.sealer.aeadkit_sealer_finish.Goals as goal

pub returns-clause-holds : goal.returns-clause-holds
returns-clause-holds c = λ s text h.
    let same : c.in-Some.suite ≡ s.suite =
    same_Some _ _ ((c.in-Some.ensures s.suite).1 (h.one_pass, h.mark_is)) in
    let keys = c.keys-keys.ensures.keys s (sym same) h.keys in
    (refl, c.bytes.ensures.value ∙ c.tag_of_text.ensures s text keys h.one_pass h.state)

pub returns-clause-not_begun : goal.returns-clause-not_begun
returns-clause-not_begun c = λ none.
    let found = (c.in-Some.ensures c.in-Some.suite).0 refl in
    absurd (none c.in-Some.suite found.0 found.1)
