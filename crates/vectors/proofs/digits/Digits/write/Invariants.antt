use Rattle.std.proofs.Common.{◌≡◌, ◌<◌, ℕ, get_or, length}
use Rattle.vectors.specs.Code.Views.{bytes_in}
use Rattle.vectors.proofs.digits.Digits.write.Given as goal

abbrev pub invariant-bytes : goal.invariant-bytes
invariant-bytes l = record {
  length_is : length l.room ≡ length l.fn.room;
  done : (k : ℕ) → k < l.i → get_or l.room k 0 ≡ get_or (bytes_in l.self) k 0;
}
