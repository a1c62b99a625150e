use Rattle.std.proofs.Common.{◌+◌, refl, sym, ◌∙◌, arith}
use Rattle.std.proofs.lemmas.List.Folds.{list_all_more}
use Rattle.vectors.specs.Cuts.{is_digit, decimal_value}
use Rattle.vectors.proofs.CutLemmas.{value_more, none_zero, none_digit, none_large, both_pass, some_number}
use Rattle.vectors.proofs.cuts.number_of.Goals as goal

pub returns-then-not-has_no_leading_zero : goal.returns-then-not-has_no_leading_zero
returns-then-not-has_no_leading_zero c =
    sym (none_zero c.args.text.now (sym c.if-not-has_no_leading_zero.ensures))

pub loop-digit-init : goal.loop-digit-init
unfolding decimal_value
loop-digit-init c = record { value = refl; digits = refl; small = omega arith }

pub returns-then-not-is_digit : goal.returns-then-not-is_digit
returns-then-not-is_digit c =
    sym (none_digit c.args.text.now c.loop-digit.digit-index c.loop-digit-test.true
    (sym c.if-not-is_digit.ensures))

pub returns-in_default : goal.returns-in_default
returns-in_default c =
    let more = value_more c.args.text.now c.loop-digit.digit-index c.loop-digit-test.true in
    sym (none_large c.args.text.now (c.loop-digit.digit-index + 1)
    (omega (arith, more, c.loop-digit.invariant.value, c.in_default.ensures)))

pub returns-in_default-checked_add : goal.returns-in_default-checked_add
returns-in_default-checked_add c =
    let more = value_more c.args.text.now c.loop-digit.digit-index c.loop-digit-test.true in
    sym (none_large c.args.text.now (c.loop-digit.digit-index + 1)
    (omega (
      arith,
      more,
      c.loop-digit.invariant.value,
      c.in-Some.ensures,
      c.from.ensures,
      c.in_default-checked_add.ensures,
    )))

pub loop-digit-preserved : goal.loop-digit-preserved
loop-digit-preserved c =
    let more = value_more c.args.text.now c.loop-digit.digit-index c.loop-digit-test.true in
    record {
      value = omega (
        arith,
        more,
        c.loop-digit.invariant.value,
        c.in-Some.ensures,
        c.from.ensures,
        c.in-Some-checked_add.ensures,
      );
      digits = list_all_more is_digit c.args.text.now c.loop-digit.digit-index 0 c.loop-digit-test.true
          ∙ both_pass _ _ c.loop-digit.invariant.digits (sym c.if-not-is_digit.ensures);
      small = omega (arith, c.in-Some-checked_add.ensures);
    }

pub returns : goal.returns
returns c =
    some_number c.args.text.now c.loop-digit.digit-index c.loop-digit.number c.loop-digit-test.false
    (sym c.if-not-has_no_leading_zero.ensures) c.loop-digit.invariant.digits
    c.loop-digit.invariant.value c.loop-digit.invariant.small
