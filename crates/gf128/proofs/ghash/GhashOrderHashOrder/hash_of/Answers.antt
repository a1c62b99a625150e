use Rattle.std.proofs.Common.{sym}
use Rattle.gf128.specs.Ghash.{ghash_sum}
use Rattle.gf128.specs.Orders.{block_sum}
use Rattle.gf128.proofs.Sums.{ghash_is_the_only}
use Rattle.gf128.proofs.ghash.GhashOrderHashOrder.hash_of.Goals as goal

pub returns-clause-value : goal.returns-clause-value
unfolding ghash_sum block_sum
returns-clause-value c = λ h k m serves is.
    (ghash_is_the_only h m).1 c.block_of.result (record {
      is_block = c.block_of.ensures.is_block;
      sum_is = rw (c.block_of.ensures.value, sym serves) is;
    })
