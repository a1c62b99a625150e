use Rattle.std.proofs.Common.{◌/◌, ◌<◌, ◌^◌, ◌∙◌, ap, sym, subst, arith}
use Rattle.octets.specs.Bytes.{IsBlock, le}
use Rattle.gf128.proofs.LaneWords.{le_of_word, le_block, to_le_block}
use Rattle.gf128.proofs.Moves.{half_below}
use Rattle.gf128.proofs.word_bytes.WordBytes.half_down.Goals as goal

pub invariant_of-result : goal.invariant_of-result
invariant_of-result c =
    let a = c.args.self in
    record { is_block = subst IsBlock (sym (half_below a.bytes a.is_block)) (to_le_block (le a.bytes / 2 ^ 64)) }

pub returns : goal.returns
returns c =
    let a = c.args.self in
    let small : le a.bytes < 2 ^ 128 = le_block a.bytes a.is_block in
    ap le (half_below a.bytes a.is_block) ∙ le_of_word (le a.bytes / 2 ^ 64) (omega arith)
