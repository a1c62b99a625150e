use Rattle.std.proofs.Common.{sym, subst}
use Rattle.std.specs.Int.{w128, to_be_bytes}
use Rattle.octets.specs.Bytes.{le}
use Rattle.gf128.specs.Code.Words.{IsFourProducts}
use Rattle.gf128.proofs.FourLooked.{four_looked}
use Rattle.gf128.proofs.wide_mul.PairedMulFourProducts.times_four.Goals as goal

pub returns : goal.returns
returns c =
    let p = c.args.self.now in
    let s = p.multiplier.now in
    let a = c.args.a in
    let b = c.args.b in
    let y = c.args.c in
    let z = c.args.d in
    let upper = p.upper_is in
    let lower = p.lower_is in
    let is = four_looked s.first.word s.second.word s.third.word s.fourth.word s.first.multiples.high s.first.multiples.low
    s.second.multiples.high s.second.multiples.low s.third.multiples.high s.third.multiples.low s.fourth.multiples.high s.fourth.multiples.low
    a.bytes b.bytes y.bytes z.bytes a.is_block b.is_block y.is_block z.is_block s.second_power s.third_power s.fourth_power
    s.first.filled s.second.filled s.third.filled s.fourth.filled in
    subst (IsFourProducts (le a.bytes) (le b.bytes) (le y.bytes) (le z.bytes) (to_be_bytes w128 s.first.word)) (sym (rw (
      upper.first_high,
      upper.first_low,
      upper.second_high,
      upper.second_low,
      lower.first_high,
      lower.first_low,
      lower.second_high,
      lower.second_low,
    ) at c.times_pairs.ensures)) is
