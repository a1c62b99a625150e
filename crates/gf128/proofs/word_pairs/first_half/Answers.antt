use Rattle.gf128.proofs.Pairs.{first_is}
use Rattle.gf128.proofs.word_pairs.first_half.Goals as goal

pub returns : goal.returns
returns c = first_is c.args.both c.fits-both.0
