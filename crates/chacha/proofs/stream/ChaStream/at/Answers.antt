use Rattle.std.proofs.Common.{rules}
use Rattle.chacha.proofs.stream.ChaStream.at.Goals as goal

pub returns : goal.returns
returns c = search rules
