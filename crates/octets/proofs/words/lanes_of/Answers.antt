use Rattle.octets.proofs.Numbers.{le_halves}
use Rattle.octets.proofs.words.lanes_of.Goals as goal

pub returns : goal.returns
returns c = le_halves c.args.word
