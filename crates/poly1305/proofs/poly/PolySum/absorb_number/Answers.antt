use Rattle.std.proofs.Common.{◌≡◌, ℕ, ◌+◌, ◌*◌, ◌/◌, ◌%◌, ◌^◌, ◌∙◌, ap, sym, arith, refl, ◌++◌, length}
use Rattle.std.proofs.lemmas.List.{length-append, take_all}
use Rattle.octets.specs.Bytes.{block_at}
use Rattle.octets.proofs.Blocks.{next_block}
use Rattle.poly1305.specs.Poly1305.{prime, block_number, block_sum, r_of}
use Rattle.poly1305.specs.Code.Residue.{pair}
use Rattle.poly1305.proofs.Texts.{block_sum-append, whole_block_taken}
use Rattle.poly1305.proofs.poly.PolySum.absorb_number.Goals as goal

pub returns : goal.returns
returns g c = λ k m block whole long number held.
    let q : ℕ = length m / 16 in
    let r : ℕ = r_of k in
    let sum = c.args.self.now.sum in
    let after = c.step-self.result in
    let none : q + 0 ≡ q = omega arith in
    let one : length (m ++ block) / 16 ≡ q + 1 = omega (arith, length-append m block, whole, long) in
    let before : pair sum.low sum.high % prime ≡ block_sum r (m ++ block) (q + 0) % prime =
    held.sum_is ∙ ap (λ (x : ℕ). x % prime) (sym (block_sum-append r m block q (omega arith)))
    ∙ ap (λ (x : ℕ). block_sum r (m ++ block) x % prime) (sym none) in
    let read : c.args.number + 1 * 2 ^ 128 ≡ block_number (block_at (m ++ block) (q + 0)) =
    rw (next_block m block 0 whole, take_all 16 block (omega (arith, long)), long, number) refl in
    record {
      factor_is = held.factor_is;
      addend_is = held.addend_is;
      sum_is = whole_block_taken r (g.M.Multiplier.factor c.args.self.now.multiplier) (m ++ block) q 0
          (pair sum.low sum.high) c.args.number (pair after.low after.high) before read held.factor_is c.step-self.ensures
          ∙ ap (λ (x : ℕ). block_sum r (m ++ block) x % prime) (sym one);
    }
