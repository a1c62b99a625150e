use Rattle.std.proofs.Common.{rules}
use Rattle.command.proofs.program.report_status.Goals as goal

pub returns-else-yes-clause-yes : goal.returns-else-yes-clause-yes
returns-else-yes-clause-yes g c = search rules
