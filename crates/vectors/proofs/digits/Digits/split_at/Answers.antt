use Rattle.std.proofs.Common.{arith, ap, ◌∙◌}
use Rattle.vectors.specs.Faults.{is_hex, bytes_of}
use Rattle.vectors.proofs.DigitLemmas.{digits_length, cut_hex, front_bytes, back_bytes}
use Rattle.vectors.proofs.digits.Digits.split_at.Goals as goal

pub invariant_of-result : goal.invariant_of-result
invariant_of-result c =
    let text = c.args.self.text.now in
    let digits = digits_length text c.args.self.valid in
    let cut = cut_hex text c.args.count c.args.self.valid (omega (arith, digits, c.requires)) in
    record { valid = ap is_hex c.split_at.ensures.front ∙ cut.0 }

pub invariant_of-result-2 : goal.invariant_of-result-2
invariant_of-result-2 c =
    let text = c.args.self.text.now in
    let digits = digits_length text c.args.self.valid in
    let cut = cut_hex text c.args.count c.args.self.valid (omega (arith, digits, c.requires)) in
    record { valid = ap is_hex c.split_at.ensures.back ∙ cut.1 }

pub returns-clause-front : goal.returns-clause-front
returns-clause-front c =
    let text = c.args.self.text.now in
    let digits = digits_length text c.args.self.valid in
    ap bytes_of c.split_at.ensures.front
    ∙ front_bytes text c.args.count c.args.self.valid (omega (arith, digits, c.requires))

pub returns-clause-back : goal.returns-clause-back
returns-clause-back c =
    let text = c.args.self.text.now in
    let digits = digits_length text c.args.self.valid in
    ap bytes_of c.split_at.ensures.back
    ∙ back_bytes text c.args.count c.args.self.valid (omega (arith, digits, c.requires))
