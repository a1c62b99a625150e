use Rattle.std.proofs.Common.{◌∙◌, ap, sym, subst}
use Rattle.octets.specs.Bytes.{IsBlock, le}
use Rattle.gf128.specs.Code.Words.{halves_down}
use Rattle.gf128.proofs.LaneWords.{le_of_word, le_block, to_le_block}
use Rattle.gf128.proofs.Moves.{down_halves, halves_down_lt}
use Rattle.gf128.proofs.word_bytes.WordBytesLanes.down.Goals as goal

pub invariant_of-result : goal.invariant_of-result
invariant_of-result c =
    let a = c.args.self in
    record {
      is_block =
          subst IsBlock (sym (down_halves c.args.count a.bytes a.is_block)) (to_le_block (halves_down c.args.count (le a.bytes)));
    }

pub returns : goal.returns
returns c =
    let a = c.args.self in
    ap le (down_halves c.args.count a.bytes a.is_block)
    ∙ le_of_word (halves_down c.args.count (le a.bytes)) (halves_down_lt c.args.count (le a.bytes) (le_block a.bytes a.is_block))
