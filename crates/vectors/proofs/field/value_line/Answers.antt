use Rattle.std.proofs.Common.{rules}
use Rattle.vectors.specs.Grammar.{value_line}
use Rattle.vectors.proofs.field.value_line.Goals as goal

pub returns : goal.returns
unfolding value_line
returns c = search rules
