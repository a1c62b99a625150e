use Rattle.std.proofs.Common.{◌≡◌, ◌∙◌, refl, sym, ap, ap₂, subst, List, ℕ, IfOk, MatchResult}
use Rattle.std.proofs.lemmas.Option.{same_Some}
use Rattle.aead.specs.declared.suite.Suite.{Suite}
use Rattle.aead.specs.Sealing.{Setting}
use Rattle.aead.specs.Pieces.{MasksByBytes}
use Rattle.aead.specs.KeyedPasses.{setting_of, BeginRefused, HasBegun}
use Rattle.capi.specs.Keys.{first_key}
use Rattle.capi.proofs.key.aeadkit_opener_init_with.Goals as goal

pub returns-clause-not_begun : goal.returns-clause-not_begun
returns-clause-not_begun c = λ none.
    absurd (none c.in-Some.suite ((c.in-Some.ensures c.in-Some.suite).0 refl))

pub returns-clause-keeps : goal.returns-clause-keeps
returns-clause-keeps c = λ suite key k.
    let same : c.in-Some.suite ≡ suite = same_Some _ _ ((c.in-Some.ensures suite).1 k.mark_is) in
    let setting = λ (x : Suite) (y : List ℕ). setting_of x y c.args.nonce.now c.args.aad.now in
    let own = ap₂ setting same (ap (λ x. first_key x c.args.kept.now.numbers.key) same ∙ sym k.key_is) in
    c.note_begun.ensures.begins (setting suite key) (sym same)
    (subst (λ (s : Setting). IfOk c.begin_by_kept-begun.result (λ _. MasksByBytes s)) own c.begin_by_kept-begun.ensures.bytes)
    (subst (λ (s : Setting). MatchResult c.begin_by_kept-begun.result
    (λ _. HasBegun c.begin_by_kept-begun.new.keys c.begin_by_kept-begun.new.state s) (BeginRefused s))
    own c.begin_by_kept-begun.ensures.answer)
