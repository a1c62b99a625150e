use mathlib.Core.Logic.{∥∥₁_elim}
use Rattle.std.proofs.Props.{props}
use Rattle.aead.specs.Code.States.{block_key}
use Rattle.aead.proofs.hashes.BlockHashTagHash.rest.Goals as goal

pub returns-clause-value : goal.returns-clause-value
returns-clause-value g c = λ s m held.
    ∥∥₁_elim held.1 (hlevel props) (λ h. c.rest.ensures.value (block_key g.R.Count.MaskCount.by s) m h)
