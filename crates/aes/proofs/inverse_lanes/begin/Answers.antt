use Rattle.std.proofs.Common.{get_or, sym, ap, ◌∙◌, bit_xor}
use Rattle.aes.specs.Code.InverseLanes.{affine_undone}
use Rattle.aes.specs.Code.Lanes.{row_target}
use Rattle.aes.proofs.FourBlocks.{same_lanes}
use Rattle.aes.proofs.InverseBytes.{added_byte, unshifted_small}
use Rattle.aes.proofs.inverse_lanes.begin.Goals as goal

pub returns : goal.returns
returns c = λ ws n e.
    let b = c.args.block.now in
    same_lanes c.undo_affine.result c.undo_affine.ensures
    (λ k l. ap (λ y. affine_undone y)
    (c.unshift_rows.ensures.each k l ∙ c.sum.ensures.each (row_target k) (unshifted_small k)
    ∙ ap (λ v. bit_xor (get_or b (row_target k) 0) (get_or v (row_target k) 0)) e
    ∙ sym (added_byte ws n b (row_target k) (unshifted_small k))))
