use Rattle.std.proofs.Common.{◌≡◌, ◌∙◌, length, ap, arith}
use Rattle.std.proofs.lemmas.List.{length-append}
use Rattle.gf128.proofs.WordPairs.{joined_words, pair_of_halves}
use Rattle.gf128.proofs.word_pairs.WordPair.of.Goals as goal

pub invariant_of-result : goal.invariant_of-result
invariant_of-result c =
    let x = c.args.first in
    let y = c.args.second in
    let halves = joined_words x.bytes y.bytes c.joined.result c.joined.ensures x.is_block y.is_block in
    let long : length c.joined.result ≡ 32 =
    ap length c.joined.ensures ∙ omega (arith, length-append x.bytes y.bytes, x.is_block.length_is, y.is_block.length_is) in
    record { is_pair = pair_of_halves c.joined.result x.bytes y.bytes long halves.0 halves.1 x.is_block y.is_block }

pub returns : goal.returns
returns c = c.joined.ensures
