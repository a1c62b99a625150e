use Rattle.std.proofs.Common.{ℕ, ◌<◌, get_or, arith}
use Rattle.aes.specs.declared.inverse_lanes.TheConstants.{FOURTEEN_LOW, FOURTEEN_HIGH, ELEVEN_LOW, ELEVEN_HIGH}
use Rattle.aes.specs.declared.inverse_lanes.TheConstants.{THIRTEEN_LOW, THIRTEEN_HIGH, NINE_LOW, NINE_HIGH}
use Rattle.aes.proofs.InverseLanes.{splat_lanes}
use Rattle.aes.proofs.InverseBytes.{key_lanes, mixed_lanes, middle_is, fourteen_key, eleven_key, thirteen_key, nine_key}
use Rattle.aes.proofs.inverse_lanes.middle_key.Goals as goal

pub look_up_both-requires : goal.look_up_both-requires
look_up_both-requires c = c.nibbles.ensures.places

pub look_up_both-requires-2 : goal.look_up_both-requires-2
look_up_both-requires-2 c = c.nibbles.ensures.places

pub look_up_both-requires-3 : goal.look_up_both-requires-3
look_up_both-requires-3 c = c.nibbles.ensures.places

pub look_up_both-requires-4 : goal.look_up_both-requires-4
look_up_both-requires-4 c = c.nibbles.ensures.places

pub returns : goal.returns
returns c =
    let x = c.args.x in
    let low = c.nibbles.result.0 in
    let high = c.nibbles.result.1 in
    let hl = c.nibbles.ensures.nibbles.0 in
    let hh = c.nibbles.ensures.nibbles.1 in
    let small : (k : ℕ) → get_or x k 0 < 256 = c.nibbles.ensures.bytes in
    middle_is c.mix.result x
    (mixed_lanes c.mix.result c.look_up_both-4.result c.look_up_both-3.result c.look_up_both-2.result c.look_up_both.result
    _ (λ k. get_or x k 0) (λ k. 0x12) c.mix.ensures
    (key_lanes 14 FOURTEEN_LOW FOURTEEN_HIGH c.look_up_both-4.result low high x (omega arith)
    c.look_up_both-4.ensures hl hh small fourteen_key)
    (key_lanes 11 ELEVEN_LOW ELEVEN_HIGH c.look_up_both-3.result low high x (omega arith)
    c.look_up_both-3.ensures hl hh small eleven_key)
    (key_lanes 13 THIRTEEN_LOW THIRTEEN_HIGH c.look_up_both-2.result low high x (omega arith)
    c.look_up_both-2.ensures hl hh small thirteen_key)
    (key_lanes 9 NINE_LOW NINE_HIGH c.look_up_both.result low high x (omega arith)
    c.look_up_both.ensures hl hh small nine_key)
    (splat_lanes 0x12))
