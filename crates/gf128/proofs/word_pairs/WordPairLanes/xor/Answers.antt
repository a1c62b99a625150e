use Rattle.gf128.proofs.WordPairs.{xor_pair, both_xor}
use Rattle.gf128.proofs.word_pairs.WordPairLanes.xor.Goals as goal

pub invariant_of-result : goal.invariant_of-result
invariant_of-result c =
    let a = c.args.self in
    let b = c.args.other in
    record { is_pair = xor_pair a.bytes b.bytes a.is_pair b.is_pair }

pub returns : goal.returns
returns c =
    let a = c.args.self in
    let b = c.args.other in
    both_xor a.bytes b.bytes a.is_pair b.is_pair
