use Rattle.std.proofs.Common.{refl}
use Rattle.aes.specs.Code.Lanes.{row_source}
use Rattle.aes.specs.declared.lanes.TheConstants.{ROW_SOURCES}
use Rattle.aes.proofs.FourBlocks.{picked}
use Rattle.aes.proofs.lanes.U8x64Lanes.shift_rows.Goals as goal

pub returns : goal.returns
returns c = picked c.args.self ROW_SOURCES row_source 64 64 c.fits-self.0 refl refl
