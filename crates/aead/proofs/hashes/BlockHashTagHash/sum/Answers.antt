use mathlib.Core.Logic.{∥∥₁_map}
use Rattle.std.proofs.Common.{subst, sym}
use Rattle.aead.specs.Code.States.{block_key}
use Rattle.aead.specs.PassStates.{IsSumOf}
use Rattle.aead.proofs.hashes.BlockHashTagHash.sum.Goals as goal

pub returns : goal.returns
returns g c = λ s m held.
    let k = block_key g.R.Count.MaskCount.by s in
    subst (λ by. IsSumOf by c.sum.result 0 s m) (sym held.0)
    (g.met.R.Rule.sums s m c.sum.result (∥∥₁_map held.1 (λ h. c.sum.ensures k m h)))
