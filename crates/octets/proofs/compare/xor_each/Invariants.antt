use Rattle.std.proofs.Common.{◌≡◌, ℕ, ◌<◌, ◌≤◌, get_or, length, bit_xor}
use Rattle.octets.proofs.compare.xor_each.Given as goal

abbrev pub invariant-bytes : goal.invariant-bytes
invariant-bytes l = record {
  length_is : length l.dst ≡ length l.fn.dst;
  done : (k : ℕ) → k < l.i → get_or l.dst k 0 ≡ bit_xor (get_or l.fn.dst k 0) (get_or l.src k 0);
  left : (k : ℕ) → l.i ≤ k → get_or l.dst k 0 ≡ get_or l.fn.dst k 0;
}
