use Rattle.std.proofs.Common.{rules}
use Rattle.vectors.proofs.report.Report.count.Goals as goal

pub returns-clause-bad : goal.returns-clause-bad
returns-clause-bad g c = search rules
