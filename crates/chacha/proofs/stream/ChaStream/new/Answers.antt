use Rattle.std.proofs.Common.{arith}
use Rattle.chacha.proofs.stream.ChaStream.new.Goals as goal

pub returns : goal.returns
returns c = c.at.ensures c.args.first 0 (omega arith)
