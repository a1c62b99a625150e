use Rattle.std.proofs.Common.{◌-◌, length}
use Rattle.aes.specs.Code.Streams.{AdvancesFront}
use Rattle.aes.proofs.counter.Counter.apply_sixteens.Given as goal

abbrev pub invariant-loop-bytes : goal.invariant-loop-bytes
invariant-loop-bytes g l = AdvancesFront g.C.Count.up l.key l.fn.self l.self l.fn.bytes l.bytes l.done

abbrev pub decreases-loop-bytes : goal.decreases-loop-bytes
decreases-loop-bytes g l = length l.bytes - l.done
