use Rattle.gf128.proofs.Pairs.{second_is}
use Rattle.gf128.proofs.word_pairs.second_half.Goals as goal

pub returns : goal.returns
returns c = second_is c.args.both c.fits-both.0
