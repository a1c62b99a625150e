use Rattle.std.proofs.Common.{◌≡◌, ℕ, ◌∙◌, List, length, ap, arith, bit_xor}
use Rattle.octets.specs.Bytes.{le}
use Rattle.octets.specs.Polynomial.{coefficient}
use Rattle.gf128.specs.Code.Words.{of_word, IsFourProducts}
use Rattle.gf128.specs.Orders.{sum_after}
use Rattle.gf128.proofs.SumsAfter.{fours_more}
use Rattle.gf128.proofs.wide_mul.times_fours.Goals as goal

pub fours-init : goal.fours-init
unfolding sum_after
fours-init g c = λ blocks own i. ap (λ (n : ℕ). coefficient (of_word n) i) c.of-total.ensures

pub fours-preserved : goal.fours-preserved
fours-preserved g c = λ blocks own.
    let k : List ℕ = g.F.FourProducts.key c.args.multiplier.now in
    let s : ℕ = le c.fours.total.bytes in
    let p : ℕ = le c.of_bytes-first.result.bytes in
    let added : le c.xor-a.result.bytes ≡ bit_xor s p = c.xor-a.ensures in
    let is : IsFourProducts (bit_xor s p) (le c.of_bytes-b.result.bytes) (le c.of_bytes-c.result.bytes) (le c.of_bytes-d.result.bytes) k
    (le c.times_four-total.result.bytes) = rw added at c.times_four-total.ensures in
    fours_more g.O.HashOrder.order k (of_word c.args.sum) c.args.fours.now blocks c.fours.four-index s p (le c.of_bytes-b.result.bytes)
    (le c.of_bytes-c.result.bytes) (le c.of_bytes-d.result.bytes) (le c.times_four-total.result.bytes) own c.fours-test.true
    (ap (λ w. of_word (le w)) c.of_bytes-first.ensures ∙ c.word_bytes.ensures)
    (ap (λ w. of_word (le w)) c.of_bytes-b.ensures ∙ c.word_bytes-in-fours.ensures)
    (ap (λ w. of_word (le w)) c.of_bytes-c.ensures ∙ c.word_bytes-in-fours-2.ensures)
    (ap (λ w. of_word (le w)) c.of_bytes-d.ensures ∙ c.word_bytes-in-fours-3.ensures) (c.fours.invariant blocks own) is

pub returns : goal.returns
returns g c = λ blocks own.
    let end : c.fours.four-index ≡ length c.args.fours.now = omega (arith, c.fours-test.false, c.fours.auto.four-index-end) in
    rw c.word.ensures (rw end at (c.fours.invariant blocks own))
