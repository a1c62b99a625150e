use Rattle.std.proofs.Common.{refl}
use Rattle.aes.specs.Code.Lanes.{row_above, row_source}
use Rattle.aes.specs.declared.lanes.TheConstants.{TWO_SHIFTED_ABOVE}
use Rattle.aes.proofs.FourBlocks.{picked}
use Rattle.aes.proofs.lanes.U8x32Lanes.shifted_down.Goals as goal

pub returns : goal.returns
returns c = picked c.args.self TWO_SHIFTED_ABOVE (λ i. row_above (row_source i)) 32 32 c.fits-self.0 refl refl
