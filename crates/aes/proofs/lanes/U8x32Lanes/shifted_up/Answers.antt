use Rattle.std.proofs.Common.{refl}
use Rattle.aes.specs.Code.Lanes.{row_below, row_source}
use Rattle.aes.specs.declared.lanes.TheConstants.{TWO_SHIFTED_BELOW}
use Rattle.aes.proofs.FourBlocks.{picked}
use Rattle.aes.proofs.lanes.U8x32Lanes.shifted_up.Goals as goal

pub returns : goal.returns
returns c = picked c.args.self TWO_SHIFTED_BELOW (λ i. row_below (row_source i)) 32 32 c.fits-self.0 refl refl
