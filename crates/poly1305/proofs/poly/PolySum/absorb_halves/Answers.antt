use Rattle.std.proofs.Common.{◌≡◌, ℕ, ◌+◌, ◌/◌, ◌%◌, ◌∙◌, ap, arith, List, ◌++◌, length}
use Rattle.std.proofs.lemmas.List.{length-append}
use Rattle.poly1305.specs.Poly1305.{prime, block_sum, r_of}
use Rattle.poly1305.specs.Code.Residue.{pair}
use Rattle.poly1305.proofs.Halves.{blocks_taken}
use Rattle.poly1305.proofs.poly.PolySum.absorb_halves.Goals as goal

pub returns : goal.returns
returns g c = λ k m whole held.
    let x : List ℕ = c.args.front.now ++ c.args.back.now in
    let q : ℕ = length m / 16 in
    let n : ℕ = length c.args.front.now / 16 in
    let s = c.args.self.now.sum in
    let v = c.add_halves-self.result in
    let end : q + (n + n) ≡ length (m ++ x) / 16 =
    omega (arith, length-append m x, length-append c.args.front.now c.args.back.now, c.requires.whole, c.requires.same, whole) in
    record {
      factor_is = held.factor_is;
      addend_is = held.addend_is;
      sum_is = blocks_taken (r_of k) (g.M.Multiplier.factor c.args.self.now.multiplier) m x (n + n) (pair s.low s.high)
          (pair v.low v.high) whole held.factor_is held.sum_is c.add_halves-self.ensures
          ∙ ap (λ (y : ℕ). block_sum (r_of k) (m ++ x) y % prime) end;
    }
