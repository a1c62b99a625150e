use Rattle.std.proofs.Common.{◌*◌, arith}
use Rattle.gf128.proofs.LookUps.{fourths_ok, pair_lane}
use Rattle.gf128.proofs.tables.pair_sums.Goals as goal

pub swizzle : goal.swizzle
swizzle c = fourths_ok (4 * c.args.group) (omega (arith, c.requires))

pub swizzle-2 : goal.swizzle-2
swizzle-2 c = fourths_ok (4 * c.args.group) (omega (arith, c.requires))

pub returns : goal.returns
returns c = λ k l.
    pair_lane c.args.first.bytes c.args.second.bytes (4 * c.args.group) k c.args.first.is_block c.args.second.is_block
    (omega (arith, c.requires)) l
