use Rattle.std.proofs.Common.{◌≡◌, ℕ, ◌+◌, ◌*◌, ◌/◌, ◌^◌, ◌%◌, ◌∙◌, ap, arith, refl, length, take, drop}
use Rattle.std.specs.Int.{w128, to_le_bytes}
use Rattle.octets.specs.Bytes.{block_count}
use Rattle.poly1305.specs.Poly1305.{prime, block_number, block_sum, r_of, s_of, poly1305}
use Rattle.poly1305.specs.Code.Residue.{pair}
use Rattle.poly1305.specs.declared.residue.Sum.{Sum}
use Rattle.poly1305.specs.Code.States.{PolySumHolds}
use Rattle.poly1305.proofs.Texts.{holds_whole, holds_partial}
use Rattle.poly1305.proofs.poly.PolyBy.tag.Goals as goal
use Rattle.poly1305.proofs.poly.PolyBy.tag.Goals.{then-rest-gt0, else-rest-gt0}

pub returns-clause-value : goal.returns-clause-value
unfolding poly1305
returns-clause-value g c = λ k m held.
    let core = c.args.self.now.pieces.core in
    let taken : PolySumHolds g.M.Multiplier.factor core k (take (length m / 16 * 16) m) = held.taken in
    let rest : c.rest-rest.result.now ≡ drop (length m / 16 * 16) m = c.rest-rest.ensures.value k m held in
    let value : Sum → ℕ = λ r. pair r.low r.high % prime in
    let total : value c.if-rest-gt0.sum ≡ block_sum (r_of k) m (block_count m) % prime =
    elim c.if-rest-gt0.branch [
      | then-rest-gt0 w ↦
          ap value w.sum-is
          ∙ holds_partial g.M.Multiplier.factor core k m (pair core.sum.low core.sum.high)
          w.short_block_number-last.result _ taken (omega (arith, w.if-rest-gt0.true, ap length rest))
          (w.short_block_number-last.ensures ∙ ap block_number rest) refl w.step-sum.ensures
      | else-rest-gt0 w ↦ ap value w.sum-is ∙ holds_whole g.M.Multiplier.factor core k m taken
          (omega (arith, w.if-rest-gt0.false, ap length rest))
    ] in
    let addend : core.addend ≡ s_of k = taken.addend_is in
    let reduced = c.residue-total.ensures ∙ total in
    let same : (c.residue-total.result.low + core.addend) % 2 ^ 128
    ≡ (block_sum (r_of k) m (block_count m) % prime + s_of k) % 2 ^ 128 = omega arith in
    c.new.ensures.value ∙ c.le_bytes.ensures ∙ ap (to_le_bytes w128) same
