use Rattle.std.proofs.Common.{◌≡◌, ℕ, List, ◌+◌, ◌-◌, ◌++◌, length, arith, refl, true≢false, sym}
use Rattle.std.proofs.Common.{ap, ◌∙◌, rules}
use Rattle.std.proofs.lemmas.List.{take_at}
use Rattle.octets.specs.Bytes.{AreBytes}
use Rattle.keywrap.specs.Wrapping.{HasWrappedLength}
use Rattle.keywrap.proofs.Bytes.{bytes_append, bytes_resized}
use Rattle.aes.proofs.Permutation.{is_permutation}
use Rattle.keywrap.proofs.Texts.{one_text, wrapped_length, unwrapped_by, no_wrapping, start_of_parts}
use Rattle.keywrap.proofs.outputs.unwrap_to.Goals as goal

pub returns-then-not-has_wrapped_length-clause-found : goal.returns-then-not-has_wrapped_length-clause-found
returns-then-not-has_wrapped_length-clause-found c text u =
    true≢false (sym (c.if-not-has_wrapped_length.ensures.1
    (wrapped_length c.args.key.now c.args.wrapped.now text u)))

pub returns-then-is_initial_value-clause-found : goal.returns-then-is_initial_value-clause-found
returns-then-is_initial_value-clause-found c text u =
    let wrapped : List ℕ = c.args.wrapped.now in
    let first : List ℕ = c.unwrap_blocks.new.first in
    let rest : List ℕ = c.unwrap_blocks.new.blocks in
    let lengths : HasWrappedLength wrapped = c.if-not-has_wrapped_length.ensures.0 refl in
    let long : length rest ≡ length wrapped - 8 = omega arith in
    sym ((one_text is_permutation c.args.key.now c.unwrap_blocks.ensures.key wrapped rest
    (unwrapped_by c.args.key.now wrapped (first ++ rest) rest lengths
    (bytes_resized (length rest) (length wrapped - 8) rest long c.unwrap_blocks.ensures.rest)
    (ap (λ x. x ++ rest) (c.if-is_initial_value.ensures.0 refl))
    (start_of_parts c.args.key.now wrapped c.first_eight-first.result c.copy_from_slice.new.self first rest
    c.first_eight-first.ensures c.copy_from_slice.ensures.after c.unwrap_blocks.ensures.undone))).1 text u)

pub returns-clause-answer : goal.returns-clause-answer
returns-clause-answer c =
    let wrapped : List ℕ = c.args.wrapped.now in
    let first : List ℕ = c.unwrap_blocks.new.first in
    let rest : List ℕ = c.unwrap_blocks.new.blocks in
    let lengths : HasWrappedLength wrapped = c.if-not-has_wrapped_length.ensures.0 refl in
    let eight : length first ≡ 8 = omega arith in
    let long : length first + length rest ≡ length wrapped = omega arith in
    let bytes : AreBytes (length rest) rest = c.unwrap_blocks.ensures.rest in (
      search rules,
      (
        lengths,
        no_wrapping c.args.key.now wrapped (first ++ rest) is_permutation c.unwrap_blocks.ensures.key
            (bytes_resized (length first + length rest) (length wrapped) (first ++ rest) long
            (bytes_append (length first) (length rest) first rest c.unwrap_blocks.ensures.first bytes))
            (start_of_parts c.args.key.now wrapped c.first_eight-first.result c.copy_from_slice.new.self first
            rest
            c.first_eight-first.ensures c.copy_from_slice.ensures.after c.unwrap_blocks.ensures.undone)
            (λ e. true≢false (sym (c.if-is_initial_value.ensures.1 (sym (take_at first rest 8 eight) ∙ e)))),
      ),
    )

pub returns-clause-found : goal.returns-clause-found
returns-clause-found c text u = (returns-clause-answer c).1.1 (text, u)
