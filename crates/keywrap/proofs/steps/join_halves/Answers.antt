use Rattle.keywrap.proofs.Pieces.{joined_is}
use Rattle.keywrap.proofs.steps.join_halves.Goals as goal

pub returns : goal.returns
returns c = joined_is c.args.first c.args.second c.fits-first.0 c.fits-second.0
