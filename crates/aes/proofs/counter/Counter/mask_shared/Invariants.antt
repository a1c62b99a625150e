use Rattle.std.proofs.Common.{◌≡◌, ◌+◌, ◌-◌, ◌/◌, ◌%◌, ◌^◌, length}
use Rattle.aes.specs.Code.Streams.{AdvancesFront}
use Rattle.aes.proofs.counter.Counter.mask_shared.Given as goal

abbrev pub invariant-loop-done : goal.invariant-loop-done
invariant-loop-done g l = record {
  front : AdvancesFront g.C.Count.up l.key l.fn.self l.self l.fn.bytes l.bytes l.done;
  none : l.self.used ≡ 0;
  first : l.self.first ≡ l.fn.self.first;
  number : l.self.block_count % 2 ^ 32 ≡ (l.fn.self.block_count + l.done / 16) % 2 ^ 32;
  whole : l.done % 256 ≡ 0;
}

abbrev pub decreases-loop-done : goal.decreases-loop-done
decreases-loop-done g l = length l.bytes - l.done
