use Rattle.std.proofs.Common.{refl}
use Rattle.aes.specs.Code.Lanes.{row_source}
use Rattle.aes.specs.declared.lanes.TheConstants.{TWO_ROW_SOURCES}
use Rattle.aes.proofs.FourBlocks.{picked}
use Rattle.aes.proofs.lanes.U8x32Lanes.shift_rows.Goals as goal

pub returns : goal.returns
returns c = picked c.args.self TWO_ROW_SOURCES row_source 32 32 c.fits-self.0 refl refl
