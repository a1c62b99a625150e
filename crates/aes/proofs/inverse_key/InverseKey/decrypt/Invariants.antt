use Rattle.std.proofs.Common.{◌≡◌, ℕ, ◌-◌, List}
use Rattle.octets.specs.Bytes.{IsBlock}
use Rattle.aes.specs.Schedule.{schedule, round_count}
use Rattle.aes.specs.Cipher.{shift_rows, sub_bytes, rounds, cipher}
use Rattle.aes.specs.Code.InverseLanes.{HoldsUndone}
use Rattle.aes.specs.Code.InverseKey.{IsInverse}
use Rattle.aes.proofs.inverse_key.InverseKey.decrypt.Given as goal

-- the state at hand holds a block t; a block that comes to t by the rounds that are left, and then SubBytes
-- and ShiftRows, is taken to the given block by the cipher
abbrev pub invariant-loop-done : goal.invariant-loop-done
invariant-loop-done l = (key : List ℕ) → IsInverse l.self key
    → (t : List ℕ) × IsBlock t × HoldsUndone l.state t
    × ((b : List ℕ) → shift_rows (sub_bytes (rounds (schedule key) (round_count key - 1 - l.done) b)) ≡ t
    → cipher key b ≡ l.block)
