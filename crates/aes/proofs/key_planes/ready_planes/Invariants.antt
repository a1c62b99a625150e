use Rattle.std.proofs.Common.{◌≡◌, List, ℕ, length}
use Rattle.aes.specs.Cipher.{IsKey}
use Rattle.aes.specs.Schedule.{schedule, round_count}
use Rattle.aes.specs.Code.ReadyKeys.{KeepsReadyKeys}
use Rattle.aes.proofs.KeyPlanes.{PlanesBegun}
use Rattle.aes.proofs.key_planes.ready_planes.Given as goal

abbrev pub invariant-loop-n : goal.invariant-loop-n
invariant-loop-n l = record {
  size : length l.keys ≡ 15;
  held : (key : List ℕ) → IsKey key → KeepsReadyKeys l.ready key → l.last ≡ round_count key
      → PlanesBegun l.keys (schedule key) l.n;
}
