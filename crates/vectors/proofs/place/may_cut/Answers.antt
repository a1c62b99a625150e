use Rattle.std.proofs.Common.{rules}
use Rattle.vectors.proofs.place.may_cut.Goals as goal

pub returns-in-One : goal.returns-in-One
returns-in-One c = search rules
