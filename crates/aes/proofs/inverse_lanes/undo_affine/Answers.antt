use Rattle.std.proofs.Common.{get_or, bit_xor}
use Rattle.aes.specs.Code.InverseLanes.{matrix_undone}
use Rattle.aes.proofs.FourBlocks.{via_two}
use Rattle.aes.proofs.InverseLanes.{splat_lanes}
use Rattle.aes.proofs.InverseBytes.{plain_key_lanes}
use Rattle.aes.proofs.inverse_lanes.undo_affine.Goals as goal

pub look_up_both-requires : goal.look_up_both-requires
look_up_both-requires c = c.nibbles.ensures.places

pub returns : goal.returns
returns c =
    let x = c.args.x in
    via_two bit_xor (λ k. matrix_undone (get_or x k 0)) (λ k. 0x12) c.sum.result c.look_up_both.result _ c.sum.ensures
    (plain_key_lanes c.look_up_both.result c.nibbles.result.0 c.nibbles.result.1 x c.look_up_both.ensures
    c.nibbles.ensures.nibbles.0 c.nibbles.ensures.nibbles.1 c.nibbles.ensures.bytes) (splat_lanes 0x12)
