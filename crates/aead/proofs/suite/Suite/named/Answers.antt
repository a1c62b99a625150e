use Rattle.std.proofs.Common.{rules}
use Rattle.aead.proofs.suite.Suite.named.Goals as goal

pub returns-in-text-2 : goal.returns-in-text-2
returns-in-text-2 c = search rules
