use Rattle.std.proofs.Common.{◌<◌, ◌^◌, ◌∙◌, ap, sym, subst, rules}
use Rattle.octets.specs.Bytes.{IsBlock, le}
use Rattle.gf128.proofs.LaneWords.{le_of_word, to_le_block}
use Rattle.gf128.proofs.word_bytes.WordBytes.of.Goals as goal

pub invariant_of-result : goal.invariant_of-result
invariant_of-result c = record { is_block = subst IsBlock (sym c.le_bytes.ensures) (to_le_block c.args.word) }

pub returns : goal.returns
returns c =
    let small : c.args.word < 2 ^ 128 = search rules in
    ap le c.le_bytes.ensures ∙ le_of_word c.args.word small
