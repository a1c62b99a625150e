use Rattle.aes.specs.Schedule.{schedule}
use Rattle.aes.specs.Code.Lanes.{HoldsWords}
use Rattle.aes.proofs.MadeKeys.{Begun}
use Rattle.std.proofs.Common.{◌+◌, ◌*◌}
use Rattle.aes.proofs.schedule.expand256.Given as goal

abbrev pub invariant-loop-r : goal.invariant-loop-r
invariant-loop-r l = record {
  keys : Begun l.keys l.key (2 * l.r + 2);
  first : HoldsWords 4 l.first (schedule l.key) (8 * l.r);
  second : HoldsWords 4 l.second (schedule l.key) (8 * l.r + 4);
}
