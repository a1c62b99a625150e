use Rattle.std.proofs.Common.{◌≡◌, ◌-◌, ◌≤◌, ◌++◌, length, take, drop}
use Rattle.octets.specs.Masked.{masked}
use Rattle.chacha.specs.Stream.{key_stream_byte}
use Rattle.chacha.proofs.stream.xor_stream.Given as goal

abbrev pub invariant-runs : goal.invariant-runs
invariant-runs g l = (l.done ≤ length l.fn.bytes)
    × (l.bytes ≡ masked (key_stream_byte l.key l.nonce 0) l.offset (take l.done l.fn.bytes)
    ++ drop l.done l.fn.bytes)
    × ((w : g.row.W.Denot) → g.W.Work.reaches w l.initial.work → g.W.Work.reaches w l.work)

abbrev pub decreases-runs : goal.decreases-runs
decreases-runs g l = length l.initial.bytes - l.done
