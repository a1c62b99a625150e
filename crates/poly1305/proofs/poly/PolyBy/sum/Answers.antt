use Rattle.std.proofs.Common.{◌∙◌}
use Rattle.poly1305.proofs.poly.PolyBy.sum.Goals as goal

pub returns-clause-value : goal.returns-clause-value
returns-clause-value g c = λ k m held. c.residue-sum.ensures ∙ held.taken.sum_is

pub returns-clause-below : goal.returns-clause-below
returns-clause-below g c = c.residue-sum.result.below
