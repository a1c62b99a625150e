use Rattle.std.proofs.Common.{ℕ}
use Rattle.octets.specs.Polynomial.{power}
use Rattle.gf128.specs.Code.Words.{of_word, IsReduced}
use Rattle.gf128.proofs.FourProducts.{first_power, next_power}
use Rattle.gf128.proofs.wide_mul.WideMul.set_multiples.Goals as goal

pub invariant_of-self : goal.invariant_of-self
invariant_of-self c = record { filled = c.requires }

pub invariant_of-self-2 : goal.invariant_of-self-2
invariant_of-self-2 c =
    let h : ℕ = c.args.word in
    let s : ℕ = c.times_word-second.result in
    let t : ℕ = c.times_word-third.result in
    let u : ℕ = c.times_word-fourth.result in
    let second : IsReduced (power (of_word h) 2) s = next_power h 1 h s (first_power h) (c.times_word-second.ensures h c.requires) in
    let third : IsReduced (power (of_word h) 3) t = next_power h 2 s t second (c.times_word-third.ensures h c.requires) in
    let fourth : IsReduced (power (of_word h) 4) u = next_power h 3 t u third (c.times_word-fourth.ensures h c.requires) in
    record {
      second_power = rw c.set_word.ensures second;
      third_power = rw c.set_word-2.ensures third;
      fourth_power = rw c.set_word-3.ensures fourth;
    }
