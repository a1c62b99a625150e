use Rattle.std.proofs.Common.{refl}
use Rattle.aes.proofs.FourBlocks.{places_ok, looked_up}
use Rattle.aes.proofs.lanes.U8x32Lanes.look_up.Goals as goal

pub swizzle : goal.swizzle
swizzle c = places_ok 2 32 refl c.args.at c.fits-at.0 c.requires

pub returns : goal.returns
returns c = looked_up 2 32 refl c.args.table c.copies.result c.args.at c.copies.ensures c.fits-at.0 c.requires
