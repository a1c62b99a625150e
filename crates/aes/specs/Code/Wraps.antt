-- A 32-bit counter wraps around.
use Rattle.std.specs.Prelude.{◌≡◌, ℕ, ◌%◌, ◌^◌, List, ◌++◌, take, drop}
use Rattle.std.proofs.Common.{ap}
use Rattle.std.proofs.Math.Nat.{add-mod-mod}
use Rattle.std.specs.Int.{bytes_high_first, bytes_low_first}
use Rattle.octets.specs.Bytes.{le, be}
use Rattle.aes.specs.Counters.{up_be, up_le}

-- the number of steps counts modulo 2^32
abbrev pub WrapsAround : (List ℕ → ℕ → List ℕ) → Type 0
WrapsAround up = (b : List ℕ) (j : ℕ) → up b (j % 2 ^ 32) ≡ up b j

-- a counter in the last four bytes wraps around
pub up_be-wraps : WrapsAround up_be
unfolding up_be
up_be-wraps b j = ap (λ i. take 12 b ++ bytes_high_first 4 i) (add-mod-mod (be (drop 12 b)) j (2 ^ 32))

-- a counter in the first four bytes wraps around
pub up_le-wraps : WrapsAround up_le
unfolding up_le
up_le-wraps b j = ap (λ i. bytes_low_first 0 4 i ++ drop 4 b) (add-mod-mod (le (take 4 b)) j (2 ^ 32))
