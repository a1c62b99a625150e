use Rattle.std.proofs.Common.{ℕ, get_or, refl, sym, ap, ◌∙◌, bit_xor, rules}
use Rattle.aes.specs.Cipher.{add_round_key}
use Rattle.aes.proofs.FourBlocks.{same_lanes, via_two}
use Rattle.aes.proofs.InverseLanes.{own_lanes}
use Rattle.aes.proofs.InverseBytes.{plain_state_lanes, back_lanes, is_block, added_byte}
use Rattle.aes.proofs.inverse_lanes.end.Goals as goal

pub look_up_both-requires : goal.look_up_both-requires
look_up_both-requires c = c.inverse.ensures.places

pub returns : goal.returns
unfolding add_round_key
returns c = λ s ws n block e key.
    let b : ℕ → ℕ = λ k. get_or s k 0 in
    is_block c.sum.result (add_round_key ws n s) refl
    (same_lanes c.sum.result
    (via_two bit_xor b (λ k. get_or c.args.key k 0) c.sum.result c.look_up_both.result c.args.key c.sum.ensures
    (plain_state_lanes c.look_up_both.result c.inverse.result.0 c.inverse.result.1 c.args.x b
    c.look_up_both.ensures c.inverse.ensures.nibbles.0 c.inverse.ensures.nibbles.1 (back_lanes c.args.x s e) block.bytes)
    (own_lanes c.args.key (search rules)))
    (λ k l. ap (λ v. bit_xor (b k) (get_or v k 0)) key ∙ sym (added_byte ws n s k l)))
