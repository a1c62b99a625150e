use Rattle.chacha.proofs.SideBySide.{eight_counters}
use Rattle.chacha.proofs.lanes.eight_counters.Goals as goal

pub returns : goal.returns
returns c = eight_counters c.args.counter
