use Rattle.std.proofs.Common.{◌≡◌, ◌+◌, ◌-◌, ◌/◌, ◌%◌, ◌≤◌, ◌++◌, length, take, drop}
use Rattle.octets.specs.Masked.{masked}
use Rattle.chacha.specs.Stream.{key_stream_byte}
use Rattle.chacha.proofs.runs.xor_runs.Given as goal

abbrev pub invariant-runs : goal.invariant-runs
invariant-runs g l = (l.done ≤ length l.fn.bytes) × (l.done % 64 ≡ 0)
    × g.R.Run.starts l.start l.key (l.counter + l.done / 64) l.nonce
    × (l.bytes ≡ masked (key_stream_byte l.key l.nonce l.counter) 0 (take l.done l.fn.bytes)
    ++ drop l.done l.fn.bytes)
    × ((length l.fn.bytes - l.done) % g.R.Run.SIZE ≡ 0)
    × ((w : g.row.W.Denot) → g.W.Work.reaches w l.fn.work → g.W.Work.reaches w l.own)

abbrev pub decreases-runs : goal.decreases-runs
decreases-runs g l = length l.fn.bytes - l.done
