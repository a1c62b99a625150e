use Rattle.gf128.proofs.WordPairs.{both_lt, digits_pair, up_pair}
use Rattle.gf128.proofs.word_pairs.WordPairLanes.up.Goals as goal

pub invariant_of-result : goal.invariant_of-result
invariant_of-result c = record { is_pair = digits_pair _ }

pub returns-clause-shifted : goal.returns-clause-shifted
returns-clause-shifted c =
    let a = c.args.self in
    up_pair c.args.count a.bytes a.is_pair

pub returns-clause-within : goal.returns-clause-within
returns-clause-within c = both_lt c.args.self.bytes c.args.self.is_pair
