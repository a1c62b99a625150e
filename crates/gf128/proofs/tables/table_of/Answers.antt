use Rattle.std.proofs.Common.{◌*◌, arith}
use Rattle.gf128.proofs.LookUps.{fourths_ok, remainders_ok, table_lane}
use Rattle.gf128.proofs.tables.table_of.Goals as goal

pub swizzle-by_high : goal.swizzle-by_high
swizzle-by_high c = fourths_ok (4 * c.args.place) (omega (arith, c.requires))

pub swizzle-by_low : goal.swizzle-by_low
swizzle-by_low c = remainders_ok (4 * c.args.place) (omega (arith, c.requires))

pub returns : goal.returns
returns c = λ n l. table_lane c.args.high c.args.low (4 * c.args.place) n (omega (arith, c.requires)) l
