use Rattle.std.proofs.Common.{rules}
use Rattle.aead.proofs.engine.open.answer_write.Goals as goal

pub returns-in-Unsealed : goal.returns-in-Unsealed
returns-in-Unsealed c = search rules
