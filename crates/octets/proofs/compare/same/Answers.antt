use Rattle.std.proofs.Common.{rules}
use Rattle.octets.proofs.compare.same.Goals as goal

pub returns : goal.returns
returns c = search rules
