use Rattle.std.proofs.Common.{◌+◌, ◌%◌, ◌^◌}
use Rattle.aes.proofs.counter.Counter.mask_run.Goals as goal

pub mask_states-requires-clause-states : goal.mask_states-requires-clause-states
mask_states-requires-clause-states g c =
    let s = c.args.self.now in
    c.add_first_key-start.ensures (λ q. g.C.Count.up s.first ((s.block_count + q) % 2 ^ 32)) c.sixteen.ensures.planes
