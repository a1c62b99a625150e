use Rattle.gf128.proofs.WordPairs.{first_block, second_block}
use Rattle.gf128.proofs.Pairs.{xored, xored_block}
use Rattle.std.proofs.Common.{take, drop}
use Rattle.gf128.proofs.word_pairs.WordPairLanes.sum.Goals as goal

pub invariant_of-result : goal.invariant_of-result
invariant_of-result c =
    let s = c.args.self in
    record {
      is_block =
          xored_block c.first_half.result c.second_half.result (take 16 s.bytes) (drop 16 s.bytes) c.first_half.ensures c.second_half.ensures
          (first_block s.bytes s.is_pair) (second_block s.bytes s.is_pair);
    }

pub returns : goal.returns
returns c =
    let s = c.args.self in
    xored c.first_half.result c.second_half.result (take 16 s.bytes) (drop 16 s.bytes) c.first_half.ensures c.second_half.ensures
    (first_block s.bytes s.is_pair) (second_block s.bytes s.is_pair)
