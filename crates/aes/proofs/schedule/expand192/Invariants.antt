use Rattle.aes.specs.Schedule.{schedule}
use Rattle.aes.specs.Code.Lanes.{HoldsWords}
use Rattle.aes.proofs.MadeKeys.{Begun}
use Rattle.std.proofs.Common.{◌+◌, ◌*◌}
use Rattle.aes.proofs.schedule.expand192.Given as goal

abbrev pub invariant-loop-r : goal.invariant-loop-r
invariant-loop-r l = record {
  keys : Begun l.keys l.key (3 * l.r + 1);
  four : HoldsWords 4 l.four (schedule l.key) (12 * l.r);
  two : HoldsWords 2 l.two (schedule l.key) (12 * l.r + 4);
}
