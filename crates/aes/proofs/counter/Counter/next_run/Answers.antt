use Rattle.std.proofs.Common.{rules}
use Rattle.aes.proofs.counter.Counter.next_run.Goals as goal

pub returns-then-runs-shared_pay-clause-can : goal.returns-then-runs-shared_pay-clause-can
returns-then-runs-shared_pay-clause-can g c = search rules
