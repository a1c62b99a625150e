use Rattle.std.proofs.Common.{◌≡◌}
use Rattle.aes.specs.Schedule.{schedule}
use Rattle.aes.specs.Cipher.{rounds}
use Rattle.aes.specs.Code.Columns.{state_of}
use Rattle.aes.proofs.key.AesKey.encrypt.Given as goal

abbrev pub invariant-loop-done : goal.invariant-loop-done
invariant-loop-done l = state_of l.state ≡ rounds (schedule l.self) l.done l.block
