use Rattle.gf128.proofs.WordPairs.{digits_pair, down_pair}
use Rattle.gf128.proofs.word_pairs.WordPairLanes.down.Goals as goal

pub invariant_of-result : goal.invariant_of-result
invariant_of-result c = record { is_pair = digits_pair _ }

pub returns : goal.returns
returns c =
    let a = c.args.self in
    down_pair c.args.count a.bytes a.is_pair
