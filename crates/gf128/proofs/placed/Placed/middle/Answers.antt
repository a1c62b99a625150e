use Rattle.gf128.proofs.Moves.{total_middle}
use Rattle.gf128.proofs.placed.Placed.middle.Goals as goal

pub returns : goal.returns
returns g c =
    let v = g.L.Lanes.value in
    let s = c.args.self in
    rw c.xor.ensures (total_middle (v s.low) (v s.middle) (v s.high) (v c.args.words))
