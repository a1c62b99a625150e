use Rattle.std.proofs.Common.{rules}
use Rattle.keywrap.proofs.Pieces.{first_is, second_is}
use Rattle.keywrap.proofs.steps.halves.Goals as goal

pub returns-clause-first : goal.returns-clause-first
returns-clause-first c = first_is c.args.block.now (search rules)

pub returns-clause-second : goal.returns-clause-second
returns-clause-second c = second_is c.args.block.now (search rules)
