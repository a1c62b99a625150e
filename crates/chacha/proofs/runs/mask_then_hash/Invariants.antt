use Rattle.std.proofs.Common.{◌≡◌, ℕ, ◌+◌, ◌-◌, ◌/◌, ◌%◌, ◌≤◌, List, [], ◌++◌, length, take, drop}
use Rattle.octets.specs.Masked.{masked}
use Rattle.chacha.specs.Stream.{key_stream_byte}
use Rattle.chacha.proofs.runs.mask_then_hash.Given as goal

abbrev pub invariant-runs : goal.invariant-runs
invariant-runs g l = (l.begun ≤ l.done) × (l.done ≤ length l.fn.bytes) × ((l.done - l.begun) % 64 ≡ 0)
    × (l.taken ≤ l.done) × (l.taken % 16 ≡ 0)
    × g.R.Run.starts l.start l.key (l.counter + (l.done - l.begun) / 64) l.nonce
    × (l.bytes ≡ take l.begun l.fn.bytes
    ++ (masked (key_stream_byte l.key l.nonce l.counter) 0 (take (l.done - l.begun) (drop l.begun l.fn.bytes))
    ++ drop (l.done - l.begun) (drop l.begun l.fn.bytes)))
    × ((k m : List ℕ) → g.W.BlockWork.comes_to l.fn.hash [] k m
    → g.W.BlockWork.comes_to l.own (drop l.taken (take l.done l.bytes)) k (m ++ take l.done l.bytes))

abbrev pub decreases-runs : goal.decreases-runs
decreases-runs g l = length l.fn.bytes - l.done
