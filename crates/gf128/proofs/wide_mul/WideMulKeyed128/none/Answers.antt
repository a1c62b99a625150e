use Rattle.std.proofs.Common.{ap}
use Rattle.std.specs.Int.{w128, to_be_bytes}
use Rattle.octets.specs.Polynomial.{power}
use Rattle.gf128.specs.Code.Words.{of_word, IsReduced, IsWordProduct}
use Rattle.gf128.proofs.BitParts.{word_product_is}
use Rattle.gf128.proofs.FourProducts.{first_power, next_power}
use Rattle.gf128.proofs.WordLemmas.{multiple_of_zero}
use Rattle.gf128.proofs.wide_mul.WideMulKeyed128.none.Goals as goal

pub invariant_of-result : goal.invariant_of-result
invariant_of-result c =
    let product : IsWordProduct 0 (to_be_bytes w128 0) 0 = word_product_is 0 0 0 (multiple_of_zero 128 0) in
    let second : IsReduced (power (of_word 0) 2) 0 = next_power 0 1 0 0 (first_power 0) product in
    let third : IsReduced (power (of_word 0) 3) 0 = next_power 0 2 0 0 second product in
    record {
      second_power = rw (c.of_zero.ensures, c.of_zero-2.ensures) second;
      third_power = rw (c.of_zero.ensures, c.of_zero-3.ensures) third;
      fourth_power = rw (c.of_zero.ensures, c.of_zero-4.ensures) (next_power 0 3 0 0 third product);
    }

pub returns : goal.returns
returns c = ap (to_be_bytes w128) c.of_zero.ensures
