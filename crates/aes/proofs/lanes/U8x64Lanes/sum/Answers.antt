use Rattle.std.proofs.Common.{bit_xor}
use Rattle.aes.proofs.FourBlocks.{lanes-zip2}
use Rattle.aes.proofs.lanes.U8x64Lanes.sum.Goals as goal

pub returns : goal.returns
returns c = lanes-zip2 64 bit_xor c.args.self c.args.other c.fits-self.0 c.fits-other.0
