use Rattle.std.proofs.Common.{◌∙◌, ap}
use Rattle.chacha.specs.Block.{add_xor_rotate}
use Rattle.chacha.specs.Code.Halves.{half_quarter}
use Rattle.chacha.proofs.lanes.half_quarter.Goals as goal

pub returns : goal.returns
unfolding half_quarter
returns g c = λ j l.
    c.add_xor_rotate-2.ensures j l ∙ ap (add_xor_rotate 2 3 1 c.args.m) (c.add_xor_rotate.ensures j l)
