use Rattle.std.proofs.Common.{rules}
use Rattle.command.proofs.files.run_engine.Goals as goal

pub returns-in-OnePass-clause-ran : goal.returns-in-OnePass-clause-ran
returns-in-OnePass-clause-ran g c = search rules
