use Rattle.std.proofs.Common.{ℕ, List, take, sym, subst, arith}
use Rattle.std.proofs.Common.{true≢false}
use Rattle.keywrap.specs.Padded.{UnwrappedPadded}
use Rattle.aes.proofs.Permutation.{is_permutation}
use Rattle.keywrap.proofs.PaddedTexts.{one_text, wrapped_long, parts}
use Rattle.keywrap.proofs.outputs.unwrap_padded_to.Goals as goal

pub returns-then-not-has_blocks-clause-found : goal.returns-then-not-has_blocks-clause-found
returns-then-not-has_blocks-clause-found c text u =
    true≢false (sym (c.if-not-has_blocks.ensures.1
    (wrapped_long c.args.key.now c.args.wrapped.now text u).0))

pub returns-then-wrapped-clause-found : goal.returns-then-wrapped-clause-found
returns-then-wrapped-clause-found c text u =
    omega (arith, (wrapped_long c.args.key.now c.args.wrapped.now text u).1, c.if-wrapped.true)

pub returns-in-Some-clause-found : goal.returns-in-Some-clause-found
returns-in-Some-clause-found c text u =
    let rest : List ℕ = c.unwrap_padded_register.new.blocks in
    let whole = parts c.args.wrapped.now c.first_eight-first.result c.copy_from_slice.new.self
    c.first_eight-first.ensures c.copy_from_slice.ensures.after in
    sym ((one_text is_permutation c.args.key.now c.unwrap_padded_register.ensures.key c.args.wrapped.now
    (take c.in-Some.length rest)
    (subst (λ (xs : List ℕ). UnwrappedPadded c.args.key.now xs (take c.in-Some.length rest)) whole
    c.in-Some.ensures.found.1)).1 text u)
