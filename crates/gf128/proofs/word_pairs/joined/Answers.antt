use Rattle.gf128.proofs.Pairs.{joined_is}
use Rattle.gf128.proofs.word_pairs.joined.Goals as goal

pub returns : goal.returns
returns c = joined_is c.args.first c.args.second c.fits-first.0 c.fits-second.0
