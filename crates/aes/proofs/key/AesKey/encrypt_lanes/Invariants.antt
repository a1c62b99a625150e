use Rattle.std.proofs.Common.{ℕ, List}
use Rattle.octets.specs.Bytes.{IsBlock}
use Rattle.aes.specs.Schedule.{schedule}
use Rattle.aes.specs.Cipher.{rounds}
use Rattle.aes.specs.Code.Lanes.{HoldsBlocks, HoldsShifted}
use Rattle.aes.proofs.key.AesKey.encrypt_lanes.Given as goal

abbrev pub invariant-loop-done : goal.invariant-loop-done
invariant-loop-done g l = (f : ℕ → List ℕ) → ((q : ℕ) → IsBlock (f q))
    → HoldsBlocks g.V.Lanes.count (g.V.Lanes.lanes l.fn.blocks) f
    → HoldsShifted g.V.Lanes.count (g.V.Lanes.lanes l.state) (λ q. rounds (schedule l.self) l.done (f q))
