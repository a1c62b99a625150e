use Rattle.std.proofs.Common.{get_or, bit_and}
use Rattle.aes.proofs.FourBlocks.{same_lanes, lanes-splat, low_is, lane_fits}
use Rattle.aes.proofs.lanes.U8x32Lanes.low_nibbles.Goals as goal

pub returns-clause-nibbles : goal.returns-clause-nibbles
returns-clause-nibbles c =
    same_lanes _ (lanes-splat 32 bit_and c.args.self 15 c.fits-self.0) (λ k l. low_is (get_or c.args.self k 0))

pub returns-clause-bytes : goal.returns-clause-bytes
returns-clause-bytes c = λ k. lane_fits c.args.self k c.fits-self.1
