use mathlib.Core.Logic.{∥∥₁_map}
use Rattle.aead.proofs.hashes.BlockHashTagHash.pad.Goals as goal

pub returns : goal.returns
returns g c = λ s m h. (h.0, ∥∥₁_map h.1 (λ held. c.pad16.ensures _ m held))
