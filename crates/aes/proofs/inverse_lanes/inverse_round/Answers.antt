use Rattle.std.proofs.Common.{ℕ, get_or, arith, rules}
use Rattle.aes.specs.declared.inverse_lanes.TheConstants.{FOURTEEN_BY_FIRST, FOURTEEN_BY_SECOND, ELEVEN_BY_FIRST}
use Rattle.aes.specs.declared.inverse_lanes.TheConstants.{ELEVEN_BY_SECOND, THIRTEEN_BY_FIRST, THIRTEEN_BY_SECOND}
use Rattle.aes.specs.declared.inverse_lanes.TheConstants.{NINE_BY_FIRST, NINE_BY_SECOND}
use Rattle.aes.proofs.InverseLanes.{own_lanes}
use Rattle.aes.proofs.InverseBytes.{state_lanes, back_lanes, mixed_lanes, round_is, fourteen_state, eleven_state}
use Rattle.aes.proofs.InverseBytes.{thirteen_state, nine_state}
use Rattle.aes.proofs.inverse_lanes.inverse_round.Goals as goal

pub look_up_both-requires : goal.look_up_both-requires
look_up_both-requires c = c.inverse.ensures.places

pub look_up_both-requires-2 : goal.look_up_both-requires-2
look_up_both-requires-2 c = c.inverse.ensures.places

pub look_up_both-requires-3 : goal.look_up_both-requires-3
look_up_both-requires-3 c = c.inverse.ensures.places

pub look_up_both-requires-4 : goal.look_up_both-requires-4
look_up_both-requires-4 c = c.inverse.ensures.places

pub returns : goal.returns
returns c = λ s ws n block e key.
    let u = c.inverse.result.0 in
    let t = c.inverse.result.1 in
    let b : ℕ → ℕ = λ k. get_or s k 0 in
    let held = back_lanes c.args.x s e in
    let hu = c.inverse.ensures.nibbles.0 in
    let ht = c.inverse.ensures.nibbles.1 in
    round_is c.mix.result c.args.key s ws n key
    (mixed_lanes c.mix.result c.look_up_both-4.result c.look_up_both-3.result c.look_up_both-2.result c.look_up_both.result
    c.args.key b (λ i. get_or c.args.key i 0) c.mix.ensures
    (state_lanes 14 FOURTEEN_BY_FIRST FOURTEEN_BY_SECOND c.look_up_both-4.result u t c.args.x b (omega arith)
    c.look_up_both-4.ensures hu ht held block.bytes fourteen_state)
    (state_lanes 11 ELEVEN_BY_FIRST ELEVEN_BY_SECOND c.look_up_both-3.result u t c.args.x b (omega arith)
    c.look_up_both-3.ensures hu ht held block.bytes eleven_state)
    (state_lanes 13 THIRTEEN_BY_FIRST THIRTEEN_BY_SECOND c.look_up_both-2.result u t c.args.x b (omega arith)
    c.look_up_both-2.ensures hu ht held block.bytes thirteen_state)
    (state_lanes 9 NINE_BY_FIRST NINE_BY_SECOND c.look_up_both.result u t c.args.x b (omega arith) c.look_up_both.ensures hu
    ht held block.bytes nine_state)
    (own_lanes c.args.key (search rules)))
