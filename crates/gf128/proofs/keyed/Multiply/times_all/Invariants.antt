use Rattle.octets.specs.Polynomial.{Agree}
use Rattle.gf128.specs.Code.Words.{of_word}
use Rattle.gf128.specs.Orders.{sum_after}
use Rattle.gf128.proofs.keyed.Multiply.times_all.Given as goal

abbrev pub invariant-taken : goal.invariant-taken
invariant-taken g l = Agree (of_word l.total)
    (sum_after g.O.HashOrder.order (g.Self.Multiply.key_bytes l.self) (of_word l.sum) l.blocks l.block-index)
