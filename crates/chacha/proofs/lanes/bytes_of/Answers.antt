use Rattle.std.proofs.Common.{refl}
use Rattle.chacha.proofs.SideBySide.{lanes_serialized}
use Rattle.chacha.proofs.lanes.bytes_of.Goals as goal

pub returns : goal.returns
returns c = lanes_serialized c.args.lanes 4 16 c.fits-lanes.0 refl c.fits-lanes.1
