use Rattle.vectors.proofs.CutLemmas.{parts_some, parts_none}
use Rattle.vectors.proofs.cuts.first_part.Goals as goal

pub returns-in-Some-clause-parts : goal.returns-in-Some-clause-parts
returns-in-Some-clause-parts c = parts_some c.args.text.now c.in-Some.at c.in-Some.ensures

pub returns-in-None-clause-parts : goal.returns-in-None-clause-parts
returns-in-None-clause-parts c = parts_none c.args.text.now c.in-None.ensures
