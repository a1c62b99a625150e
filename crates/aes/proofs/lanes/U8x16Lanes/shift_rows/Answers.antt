use Rattle.std.proofs.Common.{refl}
use Rattle.aes.specs.Code.Lanes.{row_source}
use Rattle.aes.specs.declared.lanes.TheConstants.{ONE_ROW_SOURCES}
use Rattle.aes.proofs.FourBlocks.{picked}
use Rattle.aes.proofs.lanes.U8x16Lanes.shift_rows.Goals as goal

pub returns : goal.returns
returns c = picked c.args.self ONE_ROW_SOURCES row_source 16 16 c.fits-self.0 refl refl
