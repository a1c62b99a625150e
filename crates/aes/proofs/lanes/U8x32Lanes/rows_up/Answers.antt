use Rattle.std.proofs.Common.{refl}
use Rattle.aes.specs.Code.Lanes.{row_below}
use Rattle.aes.specs.declared.lanes.TheConstants.{TWO_ROWS_BELOW}
use Rattle.aes.proofs.FourBlocks.{picked}
use Rattle.aes.proofs.lanes.U8x32Lanes.rows_up.Goals as goal

pub returns : goal.returns
returns c = picked c.args.self TWO_ROWS_BELOW row_below 32 32 c.fits-self.0 refl refl
