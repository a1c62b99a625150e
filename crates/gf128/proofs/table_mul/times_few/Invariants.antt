use Rattle.std.proofs.Common.{ℕ}
use Rattle.std.specs.Int.{w128, to_be_bytes}
use Rattle.octets.specs.Polynomial.{Agree}
use Rattle.gf128.specs.Code.Words.{of_word, AreTables}
use Rattle.gf128.specs.Orders.{sum_after}
use Rattle.gf128.proofs.table_mul.times_few.Given as goal

abbrev pub invariant-taken : goal.invariant-taken
invariant-taken g l = (h : ℕ) → AreTables h l.multiples.high l.multiples.low
    → Agree (of_word l.total) (sum_after g.O.HashOrder.order (to_be_bytes w128 h) (of_word l.sum) l.blocks l.block-index)
