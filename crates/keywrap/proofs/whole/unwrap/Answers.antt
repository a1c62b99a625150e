use Rattle.std.proofs.Common.{◌≡◌, ℕ, List, ◌+◌, ◌-◌, ◌++◌, take, drop, length, arith, refl, true≢false, sym}
use Rattle.std.proofs.Common.{ap, ◌∙◌, length-drop}
use Rattle.std.proofs.lemmas.List.{take_at, length-take-le}
use Rattle.octets.specs.Bytes.{AreBytes}
use Rattle.keywrap.specs.Wrapping.{HasWrappedLength}
use Rattle.keywrap.proofs.Bytes.{bytes_append, bytes_resized}
use Rattle.aes.proofs.Permutation.{is_permutation}
use Rattle.keywrap.proofs.Texts.{one_text, wrapped_length, unwrapped_by, no_wrapping, start_of_parts}
use Rattle.keywrap.proofs.whole.unwrap.Goals as goal

pub returns-then-is_initial_value-clause-answer : goal.returns-then-is_initial_value-clause-answer
returns-then-is_initial_value-clause-answer g c =
    let wrapped : List ℕ = c.args.wrapped.now in
    let first : List ℕ = c.unwrap_blocks.new.first in
    let rest : List ℕ = c.unwrap_blocks.new.blocks in
    let lengths : HasWrappedLength wrapped = c.if-not-has_wrapped_length.ensures.0 refl in
    let blocks : c.deref_mut.result.now ≡ take (length wrapped - 8) (drop 8 wrapped) =
    c.deref_mut.ensures.value ∙ c.in_ok-text.ensures.items in
    let long : length rest ≡ length wrapped - 8 =
    omega (
      arith,
      ap length blocks,
      length-take-le (length wrapped - 8) (drop 8 wrapped)
          (omega (arith, length-drop 8 wrapped)),
    ) in
    let kept : take c.in_ok-text.text.len (rest ++ drop (length rest) c.in_ok-text.text.items) ≡ rest =
    take_at rest (drop (length rest) c.in_ok-text.text.items) c.in_ok-text.text.len
    (omega (arith, c.deref_mut.ensures.len)) in
    let bytes : AreBytes (length rest) rest = c.unwrap_blocks.ensures.rest in
    rw kept
    (unwrapped_by c.args.key.now wrapped (first ++ rest) rest lengths
    (bytes_resized (length rest) (length wrapped - 8) rest long bytes)
    (ap (λ x. x ++ rest) (c.if-is_initial_value.ensures.0 refl))
    (start_of_parts c.args.key.now wrapped c.first_eight-first.result c.deref_mut.result.now first rest
    c.first_eight-first.ensures blocks c.unwrap_blocks.ensures.undone))

pub returns-then-is_initial_value-clause-found : goal.returns-then-is_initial_value-clause-found
returns-then-is_initial_value-clause-found g c text u =
    sym ((one_text is_permutation c.args.key.now c.unwrap_blocks.ensures.key c.args.wrapped.now
    (take c.in_ok-text.text.len (c.unwrap_blocks.new.blocks
    ++ drop (length c.unwrap_blocks.new.blocks) c.in_ok-text.text.items))
    (returns-then-is_initial_value-clause-answer g c)).1 text u)

pub returns-else-is_initial_value-clause-answer : goal.returns-else-is_initial_value-clause-answer
returns-else-is_initial_value-clause-answer g c =
    let wrapped : List ℕ = c.args.wrapped.now in
    let first : List ℕ = c.unwrap_blocks.new.first in
    let rest : List ℕ = c.unwrap_blocks.new.blocks in
    let lengths : HasWrappedLength wrapped = c.if-not-has_wrapped_length.ensures.0 refl in
    let blocks : c.deref_mut.result.now ≡ take (length wrapped - 8) (drop 8 wrapped) =
    c.deref_mut.ensures.value ∙ c.in_ok-text.ensures.items in
    let eight : length first ≡ 8 = omega arith in
    let long : length first + length rest ≡ length wrapped =
    omega (
      arith,
      ap length blocks,
      length-take-le (length wrapped - 8) (drop 8 wrapped)
          (omega (arith, length-drop 8 wrapped)),
    ) in
    let bytes : AreBytes (length rest) rest = c.unwrap_blocks.ensures.rest in (
      lengths,
      no_wrapping c.args.key.now wrapped (first ++ rest) is_permutation c.unwrap_blocks.ensures.key
          (bytes_resized (length first + length rest) (length wrapped) (first ++ rest) long
          (bytes_append (length first) (length rest) first rest c.unwrap_blocks.ensures.first bytes))
          (start_of_parts c.args.key.now wrapped c.first_eight-first.result c.deref_mut.result.now first rest
          c.first_eight-first.ensures blocks c.unwrap_blocks.ensures.undone)
          (λ e. true≢false (sym (c.if-is_initial_value.ensures.1 (sym (take_at first rest 8 eight) ∙ e)))),
    )

pub returns-else-is_initial_value-clause-found : goal.returns-else-is_initial_value-clause-found
returns-else-is_initial_value-clause-found g c text u =
    absurd ((returns-else-is_initial_value-clause-answer g c).1 (text, u))

pub returns-then-not-has_wrapped_length-clause-found : goal.returns-then-not-has_wrapped_length-clause-found
returns-then-not-has_wrapped_length-clause-found g c text u =
    absurd (true≢false (sym (c.if-not-has_wrapped_length.ensures.1
    (wrapped_length c.args.key.now c.args.wrapped.now text u))))
