use Rattle.std.proofs.Common.{◌≡◌, ℕ, ◌<◌, [], get_or, length}
use Rattle.aes.specs.Schedule.{schedule}
use Rattle.aes.specs.Code.InverseSteps.{round_key, inverse_mix_columns}
use Rattle.aes.specs.Code.InverseLanes.{HoldsUndone}
use Rattle.aes.proofs.inverse_key.InverseKey.new.Given as goal

abbrev pub invariant-loop-n : goal.invariant-loop-n
invariant-loop-n l = record {
  size : length l.keys ≡ 15;
  first : get_or l.keys 0 [] ≡ round_key (schedule l.key) 0;
  middle : (k : ℕ) → 0 < k → k < l.n → HoldsUndone (get_or l.keys k []) (inverse_mix_columns (round_key (schedule l.key) k));
}
