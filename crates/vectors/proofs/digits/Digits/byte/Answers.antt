use Rattle.std.proofs.Common.{◌+◌, ◌*◌, arith}
use Rattle.vectors.proofs.DigitLemmas.{digits_length, digit_at, byte_at}
use Rattle.vectors.proofs.digits.Digits.byte.Goals as goal

pub overflow_mul-result : goal.overflow_mul-result
overflow_mul-result c =
    let text = c.args.self.text.now in
    let digits = digits_length text c.args.self.valid in
    let small = c.digit_value.ensures.small
    (digit_at text (2 * c.args.i) c.args.self.valid (omega (arith, digits, c.requires))) in
    omega (arith, small)

pub overflow_add-result : goal.overflow_add-result
overflow_add-result c =
    let text = c.args.self.text.now in
    let digits = digits_length text c.args.self.valid in
    let small = c.digit_value.ensures.small
    (digit_at text (2 * c.args.i) c.args.self.valid (omega (arith, digits, c.requires))) in
    let smaller = c.digit_value-2.ensures.small
    (digit_at text (2 * c.args.i + 1) c.args.self.valid (omega (arith, digits, c.requires))) in
    omega (arith, small, smaller)

pub returns : goal.returns
returns c =
    let text = c.args.self.text.now in
    let digits = digits_length text c.args.self.valid in
    byte_at text c.args.i c.digit_value.result c.digit_value-2.result c.args.self.valid c.requires
    (c.digit_value.ensures.value
    (digit_at text (2 * c.args.i) c.args.self.valid (omega (arith, digits, c.requires))))
    (c.digit_value-2.ensures.value
    (digit_at text (2 * c.args.i + 1) c.args.self.valid (omega (arith, digits, c.requires))))
