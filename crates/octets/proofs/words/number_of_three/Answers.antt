use Rattle.std.proofs.Common.{arith}
use Rattle.std.proofs.lemmas.List.{get_or_past}
use Rattle.octets.proofs.Numbers.{le_three}
use Rattle.octets.proofs.words.number_of_three.Goals as goal

pub returns-in-0-clause-value : goal.returns-in-0-clause-value
returns-in-0-clause-value c =
    let bs = c.args.bytes.now in
    omega (
      arith,
      c.in-0.is,
      le_three bs c.requires,
      get_or_past bs 0 0 (omega (arith, c.in-0.is)),
      get_or_past bs 1 0 (omega (arith, c.in-0.is)),
      get_or_past bs 2 0 (omega (arith, c.in-0.is)),
    )

pub returns-in-1-clause-value : goal.returns-in-1-clause-value
returns-in-1-clause-value c =
    let bs = c.args.bytes.now in
    omega (
      arith,
      c.from.ensures,
      le_three bs c.requires,
      get_or_past bs 1 0 (omega (arith, c.in-1.is)),
      get_or_past bs 2 0 (omega (arith, c.in-1.is)),
    )

pub returns-in-2-clause-value : goal.returns-in-2-clause-value
returns-in-2-clause-value c =
    let bs = c.args.bytes.now in
    omega (
      arith,
      c.from-in-2.ensures,
      c.from-in-2-2.ensures,
      le_three bs c.requires,
      get_or_past bs 2 0 (omega (arith, c.in-2.is)),
    )

pub returns-in_default-clause-value : goal.returns-in_default-clause-value
returns-in_default-clause-value c =
    omega (
      arith,
      c.from-in_default.ensures,
      c.from-in_default-2.ensures,
      c.from-in_default-3.ensures,
      le_three c.args.bytes.now c.requires,
    )
