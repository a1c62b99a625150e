use Rattle.std.proofs.Common.{◌≡◌, ◌+◌, ◌*◌, ◌++◌}
use Rattle.keywrap.specs.Wrapping.{steps}
use Rattle.keywrap.specs.Code.Places.{register}
use Rattle.keywrap.proofs.steps.wrap_blocks.Given as goal

abbrev pub invariant-loop-round : goal.invariant-loop-round
invariant-loop-round l = l.a ++ l.blocks ≡ steps l.key (l.count * l.round) (l.fn.first ++ l.fn.blocks)

abbrev pub invariant-loop-i : goal.invariant-loop-i
invariant-loop-i l = register (8 * l.i) l.a l.blocks
    ≡ steps l.key (l.count * l.round + l.i) (l.fn.first ++ l.fn.blocks)
