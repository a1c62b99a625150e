use Rattle.aes.specs.Schedule.{schedule}
use Rattle.aes.specs.Code.Lanes.{HoldsWords}
use Rattle.aes.proofs.MadeKeys.{Begun}
use Rattle.std.proofs.Common.{◌+◌, ◌*◌}
use Rattle.aes.proofs.schedule.expand128.Given as goal

abbrev pub invariant-loop-r : goal.invariant-loop-r
invariant-loop-r l = record {
  keys : Begun l.keys l.key (l.r + 1);
  words : HoldsWords 4 l.words (schedule l.key) (4 * l.r);
}
