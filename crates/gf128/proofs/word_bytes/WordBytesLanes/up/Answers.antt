use Rattle.std.proofs.Common.{◌∙◌, ap, sym, subst}
use Rattle.octets.specs.Bytes.{IsBlock, le}
use Rattle.gf128.specs.Code.Words.{halves_up}
use Rattle.gf128.proofs.LaneWords.{le_block, le_of_word, to_le_block}
use Rattle.gf128.proofs.Moves.{up_halves, halves_up_lt}
use Rattle.gf128.proofs.word_bytes.WordBytesLanes.up.Goals as goal

pub invariant_of-result : goal.invariant_of-result
invariant_of-result c =
    let a = c.args.self in
    record {
      is_block =
          subst IsBlock (sym (up_halves c.args.count a.bytes a.is_block)) (to_le_block (halves_up c.args.count (le a.bytes)));
    }

pub returns-clause-shifted : goal.returns-clause-shifted
returns-clause-shifted c =
    let a = c.args.self in
    ap le (up_halves c.args.count a.bytes a.is_block)
    ∙ le_of_word (halves_up c.args.count (le a.bytes)) (halves_up_lt c.args.count (le a.bytes))

pub returns-clause-within : goal.returns-clause-within
returns-clause-within c = le_block c.args.self.bytes c.args.self.is_block
