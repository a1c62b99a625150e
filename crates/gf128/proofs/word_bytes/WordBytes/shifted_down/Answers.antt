use Rattle.std.proofs.Common.{◌-◌, ◌∙◌, ap, ap₂, bit_xor, arith}
use Rattle.octets.specs.Bytes.{le}
use Rattle.gf128.specs.Code.Words.{halves_up}
use Rattle.gf128.proofs.LaneWords.{le_block}
use Rattle.gf128.proofs.Moves.{shifted_is}
use Rattle.gf128.proofs.word_bytes.WordBytes.shifted_down.Goals as goal

pub returns : goal.returns
returns c =
    let a = c.args.self in
    let e = c.args.count in
    c.xor.ensures ∙ ap₂ bit_xor (c.up-carried.ensures.shifted ∙ ap (halves_up (64 - e)) c.half_down.ensures) c.down.ensures
    ∙ shifted_is (le a.bytes) (64 - e) e (omega (arith, c.requires.within)) (le_block a.bytes a.is_block)
