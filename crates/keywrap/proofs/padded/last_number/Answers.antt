use Rattle.std.proofs.Common.{◌/◌, ◌*◌, ◌-◌, ◌%◌, ◌^◌, ℕ, ap, arith}
use Rattle.keywrap.proofs.Checks.{none_behind}
use Rattle.keywrap.proofs.padded.last_number.Goals as goal

pub returns-clause-none : goal.returns-clause-none
returns-clause-none c few =
    none_behind c.args.last.now c.args.count
    (c.from_le_bytes-number.result / 2 ^ 8 / 2 ^ (8 * (7 - c.args.count % 8)))
    (record { length_is = omega arith; bytes = search }) few
    (ap (λ (x : ℕ). x / 2 ^ 8 / 2 ^ (8 * (7 - c.args.count % 8))) c.from_le_bytes-number.ensures)
