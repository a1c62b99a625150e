use Rattle.std.proofs.Common.{◌≡◌, refl, suc, ◌+◌, length, arith}
use Rattle.std.specs.Int.{w128, to_be_bytes}
use Rattle.gf128.specs.Code.Words.{of_word}
use Rattle.gf128.specs.Orders.{sum_after}
use Rattle.gf128.proofs.SumsAfter.{one_after}
use Rattle.gf128.proofs.table_mul.times_few.Goals as goal

pub taken-init : goal.taken-init
unfolding sum_after
taken-init g c = λ h filled i. refl

pub taken-preserved : goal.taken-preserved
taken-preserved g c = λ h filled.
    let n = c.taken.block-index in
    let e : suc n ≡ n + 1 = omega arith in
    rw e at (one_after g.O.HashOrder.order (to_be_bytes w128 h) (of_word c.args.sum) c.args.blocks.now n c.taken.total
    c.word_of.result c.product-total.result (c.taken.invariant h filled) c.word_of.ensures (c.product-total.ensures h filled))

pub returns : goal.returns
returns g c = λ h filled.
    let end : c.taken.block-index ≡ length c.args.blocks.now = omega (arith, c.taken-test.false, c.taken.auto.block-index-end) in
    rw end at (c.taken.invariant h filled)
