use Rattle.std.proofs.Common.{refl, rules}
use Rattle.vectors.specs.Cuts.{are_cuts}
use Rattle.vectors.proofs.cuts.are_cuts.Goals as goal

pub parts-init : goal.parts-init
unfolding are_cuts
parts-init c = refl

pub parts-preserved : goal.parts-preserved
parts-preserved c = search rules

pub returns-in_default-behind : goal.returns-in_default-behind
returns-in_default-behind c = search rules
