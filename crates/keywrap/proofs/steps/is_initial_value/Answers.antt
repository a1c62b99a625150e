use Rattle.std.proofs.Common.{arith}
use Rattle.keywrap.proofs.Checks.{is_initial}
use Rattle.keywrap.proofs.steps.is_initial_value.Goals as goal

pub returns : goal.returns
returns c =
    let right = is_initial c.args.first.now c.from_be_bytes.result
    (record { length_is = omega arith; bytes = search }) c.from_be_bytes.ensures in (
      λ z. let none = c.is_valid.ensures.0 z in right.0 (omega (arith, none)),
      λ z. let is = right.1 z in c.is_valid.ensures.1 (omega (arith, is)),
    )
