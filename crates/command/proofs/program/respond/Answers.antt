use Rattle.std.proofs.Common.{rules}
use Rattle.command.proofs.program.respond.Goals as goal

pub returns-in-Err-clause-quiet : goal.returns-in-Err-clause-quiet
returns-in-Err-clause-quiet g c = search rules
