use Rattle.vectors.proofs.LineLemmas.{first_byte}
use Rattle.vectors.proofs.lines.first_place.Goals as goal

pub returns : goal.returns
returns c = first_byte c.args.byte c.args.bytes.now c.memchr.result c.memchr.ensures
