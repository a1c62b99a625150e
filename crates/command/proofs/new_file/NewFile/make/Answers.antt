use Rattle.std.proofs.Common.{rules}
use Rattle.command.proofs.new_file.NewFile.make.Goals as goal

pub returns-else-is_none-clause-made : goal.returns-else-is_none-clause-made
returns-else-is_none-clause-made g c = search rules
