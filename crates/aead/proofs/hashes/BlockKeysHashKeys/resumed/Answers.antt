use mathlib.Core.Logic.{∥∥₁_map}
use Rattle.std.proofs.Common.{subst}
use Rattle.aead.specs.Code.States.{block_key}
use Rattle.aead.specs.PassStates.{IsSumOf}
use Rattle.aead.proofs.hashes.BlockKeysHashKeys.resumed.Goals as goal

pub returns : goal.returns
returns g c = λ s m serves keyed_by sum_by rest.
    let sum = subst (λ x. IsSumOf x c.args.low c.args._high s m) serves.0 sum_by in
    let is = g.met.R.Rule.is_sum s m c.args.low c.args._high sum in
    (serves.0, ∥∥₁_map is (λ h. c.resumed.ensures (block_key g.R.Count.MaskCount.by s) m serves.1 h rest))
