use Rattle.std.proofs.Common.{◌≡◌, ℕ, ◌+◌, ◌*◌, ◌/◌, ◌%◌, ◌≤◌, ◌∙◌, ap, sym, arith, List, ◌++◌, length}
use Rattle.std.proofs.lemmas.List.{length-append}
use Rattle.poly1305.specs.Poly1305.{prime, block_sum, r_of}
use Rattle.poly1305.specs.Code.Residue.{pair}
use Rattle.poly1305.proofs.Texts.{block_sum-append, whole_block_taken, whole_block_read}
use Rattle.poly1305.proofs.poly.PolySum.absorb_blocks.Goals as goal

pub taken-init : goal.taken-init
taken-init g c = λ k m whole held.
    let q : ℕ = length m / 16 in
    let e : q + 0 ≡ q = omega arith in
    let before : block_sum (r_of k) (m ++ c.args.blocks.now) q ≡ block_sum (r_of k) m q =
    block_sum-append (r_of k) m c.args.blocks.now q (omega arith) in
    held.sum_is ∙ ap (λ (x : ℕ). x % prime) (sym before) ∙ ap (λ (x : ℕ). block_sum (r_of k) (m ++ c.args.blocks.now)
    x % prime) (sym e)

pub taken-preserved : goal.taken-preserved
taken-preserved g c = λ k m whole held.
    let x : List ℕ = c.args.blocks.now in
    let i : ℕ = c.taken.block-index in
    let room : (i + 1) * 16 ≤ length x = omega (arith, c.taken-test.true, c.as_chunks.ensures.front_len) in
    whole_block_taken (r_of k) (g.M.Multiplier.factor c.args.self.now.multiplier) (m ++ x) (length m / 16) i
    (pair c.taken.sum.low c.taken.sum.high) c.from_le_bytes.result
    (pair c.step-sum.result.low c.step-sum.result.high)
    (c.taken.invariant k m whole held)
    (whole_block_read m x c.as_chunks.result.0.now i c.from_le_bytes.result whole room
    c.as_chunks.ensures.front c.from_le_bytes.ensures)
    held.factor_is c.step-sum.ensures

pub returns : goal.returns
returns g c = λ k m whole held.
    let x : List ℕ = c.args.blocks.now in
    let n : length (m ++ x) / 16 ≡ length m / 16 + c.taken.block-index =
    omega (
      arith,
      length-append m x,
      c.taken-test.false,
      c.taken.auto.block-index-end,
      c.as_chunks.ensures.front_len,
      c.requires,
    ) in
    record {
      factor_is = held.factor_is;
      addend_is = held.addend_is;
      sum_is = c.taken.invariant k m whole held
          ∙ ap (λ (y : ℕ). block_sum (r_of k) (m ++ x) y % prime) (sym n);
    }
