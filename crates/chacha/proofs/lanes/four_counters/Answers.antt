use Rattle.chacha.proofs.SideBySide.{four_counters}
use Rattle.chacha.proofs.lanes.four_counters.Goals as goal

pub returns : goal.returns
returns c = four_counters c.args.counter
