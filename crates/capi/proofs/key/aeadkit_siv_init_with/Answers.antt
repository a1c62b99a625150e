use Rattle.std.proofs.Common.{◌≡◌, ◌∙◌, refl, sym, ap, ap₂, subst, List, ℕ, MatchResult}
use Rattle.std.proofs.lemmas.Option.{same_Some}
use Rattle.aead.specs.declared.suite.Suite.{Suite}
use Rattle.aead.specs.Suites.{construction_of}
use Rattle.aead.specs.KeyedPasses.{setting_of, BeginRefused, HasBegun}
use Rattle.capi.specs.Keys.{first_key}
use Rattle.capi.proofs.key.aeadkit_siv_init_with.Goals as goal

pub returns-clause-not_begun : goal.returns-clause-not_begun
returns-clause-not_begun c = λ none.
    absurd (none c.in-Some.suite ((c.in-Some.ensures c.in-Some.suite).0 refl))

pub returns-clause-keeps : goal.returns-clause-keeps
returns-clause-keeps c = λ suite key k two.
    let same : c.in-Some.suite ≡ suite = same_Some _ _ ((c.in-Some.ensures suite).1 k.mark_is) in
    let setting = λ (x : Suite) (y : List ℕ). setting_of x y c.args.nonce.now c.args.aad.now in
    c.note_begun.ensures.begins (setting suite key) (sym same) (ap construction_of same ∙ two)
    (subst (λ s. MatchResult c.begin_by_kept-begun.result
    (λ _. HasBegun c.begin_by_kept-begun.new.keys c.begin_by_kept-begun.new.state s) (BeginRefused s))
    (ap₂ setting same (ap (λ x. first_key x c.args.kept.now.numbers.key) same ∙ sym k.key_is))
    c.begin_by_kept-begun.ensures.answer)

pub returns-then-not-is_siv-clause-not_begun : goal.returns-then-not-is_siv-clause-not_begun
returns-then-not-is_siv-clause-not_begun c = λ none.
    absurd (none c.in-Some.suite ((c.in-Some.ensures c.in-Some.suite).0 refl))
