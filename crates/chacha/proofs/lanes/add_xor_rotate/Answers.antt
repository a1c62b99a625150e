use Rattle.chacha.proofs.SideBySide.{lane-step}
use Rattle.chacha.proofs.lanes.add_xor_rotate.Goals as goal

pub returns : goal.returns
returns g c = λ j l.
    lane-step c.args.x.now c.sum-sum.result c.xor_rotated-turned.result c.args.a c.args.b c.args.d c.args.n
    j
    (c.sum-sum.ensures j l) (c.xor_rotated-turned.ensures j l)
