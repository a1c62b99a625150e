use Rattle.std.proofs.Common.{◌+◌, arith}
use Rattle.aes.proofs.Loads.{stored_low, stored_high, fours_same}
use Rattle.aes.proofs.planes.store.Goals as goal

pub returns : goal.returns
returns c = λ f blocks held.
    let low = c.halves.ensures f blocks (stored_low c.args.p c.transpose-blocks.result f 0 (omega arith) c.transpose-blocks.ensures held)
    (stored_low c.args.p c.transpose-blocks.result f 1 (omega arith) c.transpose-blocks.ensures held)
    (stored_low c.args.p c.transpose-blocks.result f 2 (omega arith) c.transpose-blocks.ensures held)
    (stored_low c.args.p c.transpose-blocks.result f 3 (omega arith) c.transpose-blocks.ensures held) in
    let high = c.halves-2.ensures (λ q. f (4 + q)) (λ q. blocks (4 + q))
    (stored_high c.args.p c.transpose-blocks.result f 0 (omega arith) c.transpose-blocks.ensures held)
    (stored_high c.args.p c.transpose-blocks.result f 1 (omega arith) c.transpose-blocks.ensures held)
    (stored_high c.args.p c.transpose-blocks.result f 2 (omega arith) c.transpose-blocks.ensures held)
    (stored_high c.args.p c.transpose-blocks.result f 3 (omega arith) c.transpose-blocks.ensures held) in
    (low.0, high.0, low.1, fours_same c.halves-2.result.1 f high.1)
