use Rattle.command.proofs.AnswersLemmas.{printed}
use Rattle.command.proofs.program.perform.Goals as goal

pub returns-in-Seal-clause-answer : goal.returns-in-Seal-clause-answer
returns-in-Seal-clause-answer g c =
    rw c.in-Seal.is (printed (λ v. v.items) _ _ _ _ _ _ c.seal.ensures c.print_value.ensures)

pub returns-in-Open-clause-answer : goal.returns-in-Open-clause-answer
returns-in-Open-clause-answer g c =
    rw c.in-Open.is (printed (λ v. v.items) _ _ _ _ _ _ c.open.ensures c.print_value-in-Open.ensures)

pub returns-in-Wrap-clause-answer : goal.returns-in-Wrap-clause-answer
returns-in-Wrap-clause-answer g c =
    rw c.in-Wrap.is (printed (λ v. v.items) _ _ _ _ _ _ c.wrap.ensures c.print_value-in-Wrap.ensures)

pub returns-in-Unwrap-clause-answer : goal.returns-in-Unwrap-clause-answer
returns-in-Unwrap-clause-answer g c =
    rw c.in-Unwrap.is (printed (λ v. v.items) _ _ _ _ _ _ c.unwrap.ensures c.print_value-in-Unwrap.ensures)
