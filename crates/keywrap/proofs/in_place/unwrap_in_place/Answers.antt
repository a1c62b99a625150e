use Rattle.std.proofs.Common.{◌≡◌, ℕ, List, ◌-◌, ◌*◌, ◌/◌, ◌++◌, take, drop, length, arith, refl, true≢false}
use Rattle.std.proofs.Common.{sym, ap, ◌∙◌}
use Rattle.std.proofs.lemmas.List.{take-append-drop}
use Rattle.keywrap.specs.Wrapping.{HasWrappedLength, initial_value, steps}
use Rattle.keywrap.proofs.Bytes.{bytes_drop, bytes_resized}
use Rattle.aes.proofs.Permutation.{is_permutation}
use Rattle.keywrap.proofs.Texts.{one_text, wrapped_length, unwrapped_by, no_wrapping}
use Rattle.keywrap.proofs.in_place.unwrap_in_place.Goals as goal

pub returns-then-is_initial_value-clause-answer : goal.returns-then-is_initial_value-clause-answer
returns-then-is_initial_value-clause-answer c =
    let old : List ℕ = c.args.bytes.now in
    let new : List ℕ = c.unwrap_register.new.bytes in
    let lengths : HasWrappedLength old = c.if-not-has_wrapped_length.ensures.0 refl in
    let begins : take 8 new ≡ initial_value = sym c.first_eight.ensures ∙ c.if-is_initial_value.ensures.0 refl in (
      unwrapped_by c.args.key.now old new (drop 8 new) lengths
          (bytes_resized (length new - 8) (length old - 8) (drop 8 new) (omega arith)
          (bytes_drop 8 (length new) new c.unwrap_register.ensures.bytes))
          (sym (take-append-drop 8 new) ∙ ap (λ x. x ++ drop 8 new) begins) c.unwrap_register.ensures.undone,
      begins,
    )

pub returns-clause-answer : goal.returns-clause-answer
returns-clause-answer c =
    let old : List ℕ = c.args.bytes.now in
    let new : List ℕ = c.unwrap_register.new.bytes in
    let lengths : HasWrappedLength old = c.if-not-has_wrapped_length.ensures.0 refl in (
      lengths,
      no_wrapping c.args.key.now old new is_permutation c.unwrap_register.ensures.key
          (bytes_resized (length new) (length old) new (omega arith) c.unwrap_register.ensures.bytes)
          c.unwrap_register.ensures.undone
          (λ e. true≢false (sym (c.if-is_initial_value.ensures.1 (c.first_eight.ensures ∙ e)))),
    )

pub returns-then-is_initial_value-clause-found : goal.returns-then-is_initial_value-clause-found
returns-then-is_initial_value-clause-found c text u = (
  refl,
  sym ((one_text is_permutation c.args.key.now c.unwrap_register.ensures.key c.args.bytes.now
      (drop 8 c.unwrap_register.new.bytes)
      (returns-then-is_initial_value-clause-answer c).0).1 text u),
)

pub returns-clause-found : goal.returns-clause-found
returns-clause-found c text u = absurd ((returns-clause-answer c).1 (text, u))

pub returns-clause-unchanged : goal.returns-clause-unchanged
returns-clause-unchanged c =
    let new : List ℕ = c.unwrap_register.new.bytes in
    let same : length new ≡ length c.args.bytes.now = omega arith in
    c.wrap_register.ensures ∙ ap (λ n. steps c.args.key.now (6 * ((n - 8) / 8)) new) same
    ∙ c.unwrap_register.ensures.undone

pub returns-then-not-has_wrapped_length-clause-found : goal.returns-then-not-has_wrapped_length-clause-found
returns-then-not-has_wrapped_length-clause-found c text u =
    absurd (true≢false (sym (c.if-not-has_wrapped_length.ensures.1
    (wrapped_length c.args.key.now c.args.bytes.now text u))))
