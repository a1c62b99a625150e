use Rattle.std.proofs.Common.{[]}
use Rattle.gf128.proofs.Sums.{block_sum_none}
use Rattle.gf128.proofs.hash.BlockHash.with.Goals as goal

pub returns : goal.returns
returns x c = λ h serves. c.new.ensures h (record {
  serves = serves;
  sum_is =
      block_sum_none x.O.HashOrder.order (x.M.Multiply.key_bytes c.args.multiplier) [];
})
