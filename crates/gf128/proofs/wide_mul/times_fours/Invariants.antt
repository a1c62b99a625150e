use Rattle.std.proofs.Common.{List, ℕ, ◌*◌}
use Rattle.octets.specs.Bytes.{le}
use Rattle.octets.specs.Polynomial.{Agree}
use Rattle.gf128.specs.Code.Words.{of_word, AreFours}
use Rattle.gf128.specs.Orders.{sum_after}
use Rattle.gf128.proofs.wide_mul.times_fours.Given as goal

abbrev pub invariant-fours : goal.invariant-fours
invariant-fours g l = (blocks : List (List ℕ)) → AreFours l.fours blocks → Agree (of_word (le l.total.bytes))
    (sum_after g.O.HashOrder.order (g.F.FourProducts.key l.multiplier) (of_word l.sum) blocks (l.four-index * 4))
