use Rattle.std.proofs.Common.{ℕ, ◌^◌, ◌*◌, ◌/◌, ◌%◌, ◌<◌, sym, arith, subst, ◌+◌, bit_xor, rules}
use Rattle.std.proofs.lemmas.Nat.{xor_lt}
use Rattle.gf128.proofs.WordLemmas.{IsSoFar, so_far_none, so_far_bit, so_far_all, bit_times_lt}
use Rattle.gf128.proofs.bit_mul.BitMulMultiply.times_word.Goals as goal

pub bits-init : goal.bits-init
bits-init c = (omega arith, so_far_none c.args.x c.args.self.now.key)

pub bits-preserved : goal.bits-preserved
bits-preserved c =
    let f : ℕ = c.args.x in
    let h : ℕ = c.args.self.now.key in
    let b : ℕ = f / 2 ^ c.bits.i % 2 in
    let moved : c.times_x.result < 2 ^ 128 = search rules in
    let all : bit_xor c.times_x.result (b * h) < 2 ^ 128 =
    xor_lt 128 c.times_x.result (b * h) moved (bit_times_lt b h (omega arith) (search rules)) in (
      all,
      subst (λ (t : ℕ). IsSoFar f h (c.bits.i + 1) (bit_xor t (b * h))) (sym c.times_x.ensures)
          (so_far_bit f h c.bits.i c.bits.product c.bits-test.true c.bits.invariant.0 c.bits.invariant.1),
    )

pub overflow_mul-product : goal.overflow_mul-product
overflow_mul-product c =
    let b : ℕ = c.args.x / 2 ^ c.bits.i % 2 in
    record { fits = bit_times_lt b c.args.self.now.key (omega arith) (search rules) }

pub returns : goal.returns
returns c = so_far_all c.args.x c.args.self.now.key c.bits.i c.bits.product (omega arith) c.bits.invariant.1
