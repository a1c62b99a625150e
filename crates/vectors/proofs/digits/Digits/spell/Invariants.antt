use Rattle.std.proofs.Common.{◌≡◌, ◌↔◌, ◌<◌, ℕ, true, get_or, length}
use Rattle.vectors.specs.Code.Views.{bytes_in}
use Rattle.vectors.proofs.digits.Digits.spell.Given as goal

abbrev pub invariant-bytes : goal.invariant-bytes
invariant-bytes l = record {
  length_is : length l.bytes ≡ length (bytes_in l.self);
  same : (l.same ≡ true) ↔ ((k : ℕ) → k < l.i → get_or (bytes_in l.self) k 0 ≡ get_or l.bytes k 0);
}
