use Rattle.std.proofs.Common.{◌≡◌, ℕ, List, ◌++◌, take, drop, length, sym, ap, ◌∙◌, subst, arith, refl}
use Rattle.std.proofs.Common.{true≢false}
use Rattle.std.proofs.lemmas.List.{take_at}
use Rattle.keywrap.specs.Padded.{UnwrappedPadded, IsPaddedWrapping}
use Rattle.aes.proofs.Permutation.{is_permutation}
use Rattle.keywrap.proofs.PaddedTexts.{one_text, wrapped_long, parts}
use Rattle.keywrap.proofs.padded.unwrap_padded.Goals as goal

pub returns-then-not-has_blocks-clause-found : goal.returns-then-not-has_blocks-clause-found
returns-then-not-has_blocks-clause-found g c text u =
    absurd (true≢false (sym (c.if-not-has_blocks.ensures.1
    (wrapped_long c.args.key.now c.args.wrapped.now text u).0)))

pub returns-then-wrapped-clause-found : goal.returns-then-wrapped-clause-found
returns-then-wrapped-clause-found g c text u =
    absurd (omega (arith, (wrapped_long c.args.key.now c.args.wrapped.now text u).1, c.if-wrapped.true))

pub returns-in-Some-clause-answer : goal.returns-in-Some-clause-answer
returns-in-Some-clause-answer g c =
    let rest : List ℕ = c.unwrap_padded_register.new.blocks in
    let kept : take c.in_ok-text.text.len (rest ++ drop (length rest) c.in_ok-text.text.items) ≡ rest =
    take_at rest (drop (length rest) c.in_ok-text.text.items) c.in_ok-text.text.len
    (omega (arith, c.deref_mut.ensures.len)) in
    let whole = parts c.args.wrapped.now c.first_eight-first.result c.deref_mut.result.now
    c.first_eight-first.ensures (c.deref_mut.ensures.value ∙ c.in_ok-text.ensures.items) in
    subst (λ (xs : List ℕ). UnwrappedPadded c.args.key.now c.args.wrapped.now xs)
    (sym (c.truncate.ensures.items ∙ ap (take c.in-Some.length) kept))
    (subst (λ (xs : List ℕ). UnwrappedPadded c.args.key.now xs (take c.in-Some.length rest)) whole
    c.in-Some.ensures.found.1)

pub returns-in-Some-clause-found : goal.returns-in-Some-clause-found
returns-in-Some-clause-found g c text u =
    sym ((one_text is_permutation c.args.key.now c.unwrap_padded_register.ensures.key c.args.wrapped.now
    c.truncate.new.self.items (returns-in-Some-clause-answer g c)).1 text u)

pub returns-in-None-clause-answer : goal.returns-in-None-clause-answer
returns-in-None-clause-answer g c =
    let whole = parts c.args.wrapped.now c.first_eight-first.result c.deref_mut.result.now
    c.first_eight-first.ensures (c.deref_mut.ensures.value ∙ c.in_ok-text.ensures.items) in (
      c.if-not-has_blocks.ensures.0 refl,
      (omega arith, subst (λ (xs : List ℕ). ¬ IsPaddedWrapping c.args.key.now xs) whole c.in-None.ensures.found),
    )

pub returns-in-None-clause-found : goal.returns-in-None-clause-found
returns-in-None-clause-found g c text u = absurd ((returns-in-None-clause-answer g c).1.1 (text, u))
