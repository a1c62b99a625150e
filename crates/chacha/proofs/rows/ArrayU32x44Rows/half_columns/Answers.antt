use Rattle.std.proofs.Common.{◌≡◌, arith}
use Rattle.chacha.specs.Code.Halves.{half_columns}
use Rattle.chacha.specs.Code.Rows.{state_in}
use Rattle.chacha.proofs.ByRows.{only_first, columns}
use Rattle.chacha.proofs.rows.ArrayU32x44Rows.half_columns.Goals as goal

pub returns : goal.returns
returns c =
    let was = c.args.self.now in
    let now = c.half_quarter.new.x in
    let turned = c.half_quarter.ensures in
    only_first (λ k. state_in now k ≡ half_columns c.args.n c.args.m (state_in was k))
    (columns c.args.n c.args.m 0 was now c.told-self (turned 0 (omega arith)) (turned 1 (omega arith)) (turned 2 (omega arith)) (turned 3 (omega arith)))
