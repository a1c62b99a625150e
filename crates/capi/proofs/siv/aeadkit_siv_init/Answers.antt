use Rattle.std.proofs.Common.{◌≡◌, ◌∙◌, refl, sym, ap, subst, MatchResult}
use Rattle.std.proofs.lemmas.Option.{same_Some}
use Rattle.aead.specs.declared.suite.Suite.{Suite}
use Rattle.aead.specs.Suites.{construction_of}
use Rattle.aead.specs.Sealing.{Setting}
use Rattle.aead.specs.KeyedPasses.{setting_of, BeginRefused, HasBegun}
use Rattle.capi.proofs.siv.aeadkit_siv_init.Goals as goal

pub returns-clause-known : goal.returns-clause-known
returns-clause-known c = λ named two is.
    let same : c.in-Some.suite ≡ named = same_Some _ _ ((c.in-Some.ensures named).1 is) in
    let setting : Suite → Setting = λ x. setting_of x c.args.key.now c.args.nonce.now c.args.aad.now in
    c.note_begun.ensures.begins (setting named) (sym same) (ap construction_of same ∙ two)
    (subst (λ x. MatchResult c.begin-begun.result
    (λ _. HasBegun c.begin-begun.new.self c.begin-begun.new.state (setting x))
    (BeginRefused (setting x))) same c.begin-begun.ensures.answer)

pub returns-clause-unknown : goal.returns-clause-unknown
returns-clause-unknown c = λ none.
    absurd (none c.in-Some.suite (c.is_siv.ensures.yes c.if-not-is_siv.false) ((c.in-Some.ensures c.in-Some.suite).0 refl))
