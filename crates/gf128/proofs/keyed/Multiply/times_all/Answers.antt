use Rattle.std.proofs.Common.{◌≡◌, refl, suc, ◌+◌, length, arith}
use Rattle.gf128.specs.Code.Words.{of_word}
use Rattle.gf128.specs.Orders.{sum_after}
use Rattle.gf128.proofs.SumsAfter.{one_after}
use Rattle.gf128.proofs.keyed.Multiply.times_all.Goals as goal

pub taken-init : goal.taken-init
unfolding sum_after
taken-init g c = λ i. refl

pub taken-preserved : goal.taken-preserved
taken-preserved g c =
    let n = c.taken.block-index in
    let e : suc n ≡ n + 1 = omega arith in
    rw e at (one_after g.O.HashOrder.order (g.Self.Multiply.key_bytes c.args.self.now) (of_word c.args.sum) c.args.blocks.now n c.taken.total
    c.word_of.result c.times_word-total.result c.taken.invariant c.word_of.ensures c.times_word-total.ensures)

pub returns : goal.returns
returns g c =
    let end : c.taken.block-index ≡ length c.args.blocks.now = omega (arith, c.taken-test.false, c.taken.auto.block-index-end) in
    rw end at c.taken.invariant
