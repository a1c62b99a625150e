use Rattle.std.proofs.Common.{rules}
use Rattle.command.proofs.new_file.NewFileOutlet.give.Goals as goal

pub returns-in-Ok-clause-bytes : goal.returns-in-Ok-clause-bytes
returns-in-Ok-clause-bytes g c = search rules
