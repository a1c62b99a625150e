use Rattle.std.proofs.Common.{rules}
use Rattle.octets.proofs.pieces.Pieces.rest.Goals as goal

pub returns-clause-value : goal.returns-clause-value
returns-clause-value g c = search rules
