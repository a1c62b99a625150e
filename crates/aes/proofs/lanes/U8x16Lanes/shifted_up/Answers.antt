use Rattle.std.proofs.Common.{refl}
use Rattle.aes.specs.Code.Lanes.{row_below, row_source}
use Rattle.aes.specs.declared.lanes.TheConstants.{ONE_SHIFTED_BELOW}
use Rattle.aes.proofs.FourBlocks.{picked}
use Rattle.aes.proofs.lanes.U8x16Lanes.shifted_up.Goals as goal

pub returns : goal.returns
returns c = picked c.args.self ONE_SHIFTED_BELOW (λ i. row_below (row_source i)) 16 16 c.fits-self.0 refl refl
