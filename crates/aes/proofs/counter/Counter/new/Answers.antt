use Rattle.std.proofs.Common.{rules}
use Rattle.aes.proofs.counter.Counter.new.Goals as goal

pub returns : goal.returns
returns g c = search rules
