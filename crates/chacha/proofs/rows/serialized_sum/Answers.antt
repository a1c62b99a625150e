use Rattle.std.proofs.Common.{[], ◌∷◌, ◌∙◌, ap, arith}
use Rattle.chacha.specs.Block.{added, serialized}
use Rattle.chacha.proofs.rows.serialized_sum.Goals as goal

pub returns : goal.returns
unfolding added
returns c =
    c.serialized_row.ensures
    ∙ ap serialized
    (λ k. c.sum.ensures 0 (omega arith) k ∷ c.sum.ensures 1 (omega arith) k ∷ c.sum.ensures 2 (omega arith) k
    ∷ c.sum.ensures 3 (omega arith) k ∷ [])
