use Rattle.std.proofs.Common.{refl}
use Rattle.aes.proofs.FourBlocks.{places_ok, looked_up}
use Rattle.aes.proofs.lanes.U8x16Lanes.look_up.Goals as goal

pub swizzle : goal.swizzle
swizzle c = places_ok 1 16 refl c.args.at c.fits-at.0 c.requires

pub returns : goal.returns
returns c = looked_up 1 16 refl c.args.table c.copies.result c.args.at c.copies.ensures c.fits-at.0 c.requires
