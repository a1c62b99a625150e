use Rattle.std.proofs.Common.{◌≡◌, ℕ, List, ◌-◌, ◌++◌, take, drop, length, refl, sym, ap, ap₂, ◌∙◌}
use Rattle.std.proofs.Common.{subst, arith}
use Rattle.std.proofs.Common.{true≢false, length-drop}
use Rattle.aes.proofs.Permutation.{is_permutation}
use Rattle.std.proofs.lemmas.List.{length-take-le}
use Rattle.keywrap.specs.Padded.{alternative_value, padded, transformed, HasBlocks, UnwrappedPadded}
use Rattle.keywrap.specs.Padded.{IsPaddedWrapping}
use Rattle.keywrap.proofs.PaddedTexts.{one_text, wrapped_long, parts, blocks_in_place, rest_in_place}
use Rattle.keywrap.proofs.padded_in_place.unwrap_padded_in_place.Goals as goal
use borrow.Rule.Slice.PartMut.{put_mid}

pub returns-then-not-has_blocks-clause-found : goal.returns-then-not-has_blocks-clause-found
returns-then-not-has_blocks-clause-found c text u =
    true≢false (sym (c.if-not-has_blocks.ensures.1 (wrapped_long c.args.key.now c.args.bytes.now text u).0))

pub returns-then-bytes-clause-found : goal.returns-then-bytes-clause-found
returns-then-bytes-clause-found c text u =
    omega (arith, (wrapped_long c.args.key.now c.args.bytes.now text u).1, c.if-bytes.true)

pub returns-in-Some-clause-answer : goal.returns-in-Some-clause-answer
returns-in-Some-clause-answer c =
    let key : List ℕ = c.args.key.now in
    let wrapped : List ℕ = c.args.bytes.now in
    let rest : List ℕ = c.unwrap_padded_register-found.new.blocks in
    let n : ℕ = c.in-Some.length in
    let found : List ℕ = take n rest in
    let new : List ℕ = c.copy_from_slice.new.self ++ drop 8 (put_mid 8 (length wrapped - 8) wrapped rest) in
    let blocks : HasBlocks wrapped = c.if-not-has_blocks.ensures.0 refl in
    let rest_long : length rest ≡ length wrapped - 8 =
    c.unwrap_padded_register-found.auto.blocks ∙ length-take-le (length wrapped - 8) (drop 8 wrapped)
    (omega (arith, length-drop 8 wrapped)) in
    let first_long : length c.unwrap_padded_register-found.new.first ≡ 8 = omega arith in
    let same : drop 8 new ≡ rest =
    rest_in_place c.copy_from_slice.new.self wrapped rest
    (ap length c.copy_from_slice.ensures.after ∙ first_long) blocks.least rest_long in
    let long : length new - 8 ≡ length rest = sym (length-drop 8 new) ∙ ap length same in
    let whole = parts wrapped c.first_eight-first.result (take (length wrapped - 8) (drop 8 wrapped))
    c.first_eight-first.ensures refl in
    let start = c.in-Some.ensures.start in
    let is : UnwrappedPadded key wrapped found =
    subst (λ (xs : List ℕ). UnwrappedPadded key xs found) whole c.in-Some.ensures.found.1 in (
      omega (arith, long, rest_long, blocks.least, c.in-Some.ensures.found.0),
      subst (λ (xs : List ℕ). UnwrappedPadded key wrapped (take n xs)) (sym same) is,
      ap₂ (λ x y. x ++ y)
          (c.copy_from_slice.ensures.after ∙ start.first_is
          ∙ ap alternative_value (length-take-le n rest c.in-Some.ensures.found.0))
          (blocks_in_place wrapped rest blocks.least rest_long ∙ start.blocks_are
          ∙ ap (λ (xs : List ℕ). padded (take n xs)) (sym same)),
    )

pub returns-in-Some-clause-found : goal.returns-in-Some-clause-found
returns-in-Some-clause-found c text u =
    sym ((one_text is_permutation c.args.key.now c.unwrap_padded_register-found.ensures.key c.args.bytes.now
    (take c.in-Some.length (drop 8 (c.copy_from_slice.new.self
    ++ drop 8 (put_mid 8 (length c.args.bytes.now - 8) c.args.bytes.now c.unwrap_padded_register-found.new.blocks))))
    (returns-in-Some-clause-answer c).1).1 text u)

pub returns-in-None-clause-answer : goal.returns-in-None-clause-answer
returns-in-None-clause-answer c =
    let wrapped : List ℕ = c.args.bytes.now in
    let whole = parts wrapped c.first_eight-first.result (take (length wrapped - 8) (drop 8 wrapped))
    c.first_eight-first.ensures refl in (
      c.if-not-has_blocks.ensures.0 refl,
      (
        omega (arith, c.if-bytes.false),
        subst (λ (xs : List ℕ). ¬ IsPaddedWrapping c.args.key.now xs) whole c.in-None.ensures.found,
      ),
    )

pub returns-in-None-clause-found : goal.returns-in-None-clause-found
returns-in-None-clause-found c text u = (returns-in-None-clause-answer c).1.1 (text, u)

pub returns-in-None-clause-unchanged : goal.returns-in-None-clause-unchanged
returns-in-None-clause-unchanged c =
    let key : List ℕ = c.args.key.now in
    let wrapped : List ℕ = c.args.bytes.now in
    let rest : List ℕ = c.unwrap_padded_register-found.new.blocks in
    let blocks : HasBlocks wrapped = c.if-not-has_blocks.ensures.0 refl in
    let rest_long : length rest ≡ length wrapped - 8 =
    c.unwrap_padded_register-found.auto.blocks ∙ length-take-le (length wrapped - 8) (drop 8 wrapped)
    (omega (arith, length-drop 8 wrapped)) in
    let whole = parts wrapped c.first_eight-first.result (take (length wrapped - 8) (drop 8 wrapped))
    c.first_eight-first.ensures refl in
    c.encrypt_register.ensures ∙ ap (transformed key) (ap₂ (λ x y. x ++ y) c.copy_from_slice.ensures.after
    (blocks_in_place wrapped rest blocks.least rest_long)) ∙ c.unwrap_padded_register-found.ensures.undone ∙ whole
