use Rattle.std.proofs.Common.{refl}
use Rattle.poly1305.proofs.PartialSums.{stepped}
use Rattle.poly1305.proofs.partial_sum.PartialSumBlockWork.step.Goals as goal

pub returns-in-Some-clause-comes_to : goal.returns-in-Some-clause-comes_to
returns-in-Some-clause-comes_to g c = λ k m h.
    stepped g.M.Multiplier.factor c.args.self.now _ k m c.args.left.now c.in-Some.rest.now c.in-Some.block.now
    c.from_le_bytes.result h refl
    c.in-Some.ensures.cases.0 c.in-Some.ensures.cases.1 c.in-Some.ensures.cases.2 c.from_le_bytes.ensures
    c.step-self.ensures
