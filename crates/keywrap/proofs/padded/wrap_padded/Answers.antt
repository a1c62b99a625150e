use Rattle.std.proofs.Common.{rules}
use Rattle.keywrap.proofs.padded.wrap_padded.Goals as goal

pub returns-then-text : goal.returns-then-text
returns-then-text g c = search rules
