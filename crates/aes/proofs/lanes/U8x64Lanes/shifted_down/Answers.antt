use Rattle.std.proofs.Common.{refl}
use Rattle.aes.specs.Code.Lanes.{row_above, row_source}
use Rattle.aes.specs.declared.lanes.TheConstants.{SHIFTED_ABOVE}
use Rattle.aes.proofs.FourBlocks.{picked}
use Rattle.aes.proofs.lanes.U8x64Lanes.shifted_down.Goals as goal

pub returns : goal.returns
returns c = picked c.args.self SHIFTED_ABOVE (λ i. row_above (row_source i)) 64 64 c.fits-self.0 refl refl
