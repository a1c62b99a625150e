use Rattle.std.proofs.Common.{refl}
use Rattle.aes.specs.Code.Lanes.{row_below, row_source}
use Rattle.aes.specs.declared.lanes.TheConstants.{SHIFTED_BELOW}
use Rattle.aes.proofs.FourBlocks.{picked}
use Rattle.aes.proofs.lanes.U8x64Lanes.shifted_up.Goals as goal

pub returns : goal.returns
returns c = picked c.args.self SHIFTED_BELOW (λ i. row_below (row_source i)) 64 64 c.fits-self.0 refl refl
