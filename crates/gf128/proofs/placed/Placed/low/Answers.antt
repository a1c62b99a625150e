use Rattle.std.proofs.Common.{◌-◌, arith}
use Rattle.gf128.proofs.Moves.{total_low}
use Rattle.gf128.proofs.placed.Placed.low.Goals as goal

pub returns : goal.returns
returns g c =
    let v = g.L.Lanes.value in
    let s = c.args.self in
    let i = c.args.count in
    rw (c.xor.ensures, c.up.ensures.shifted, c.xor-2.ensures, c.down.ensures)
    (total_low (v s.low) (v s.middle) (v s.high) (v c.args.words) i (64 - i) (omega (arith, c.requires.within)) c.up.ensures.within)
