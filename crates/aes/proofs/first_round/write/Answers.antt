use Rattle.std.proofs.Common.{sym, ◌∙◌}
use Rattle.aes.proofs.FirstRounds.{filled}
use Rattle.aes.proofs.first_round.write.Goals as goal

pub returns : goal.returns
returns c = filled c.args.list.now c.args.lanes (c.told-list ∙ sym c.fits-lanes.0)
