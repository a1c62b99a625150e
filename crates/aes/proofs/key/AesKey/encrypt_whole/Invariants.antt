use Rattle.std.proofs.Common.{ℕ, List}
use Rattle.octets.specs.Bytes.{IsBlock}
use Rattle.aes.specs.Schedule.{schedule}
use Rattle.aes.specs.Cipher.{rounds}
use Rattle.aes.specs.Code.Planes.{HoldsSixteen}
use Rattle.aes.proofs.key.AesKey.encrypt_whole.Given as goal

abbrev pub invariant-loop-done : goal.invariant-loop-done
invariant-loop-done l = (f : ℕ → List ℕ) → ((q : ℕ) → IsBlock (f q)) → HoldsSixteen l.fn.start (λ q. rounds (schedule l.self) l.from (f q))
    → HoldsSixteen l.state (λ q. rounds (schedule l.self) l.done (f q))
