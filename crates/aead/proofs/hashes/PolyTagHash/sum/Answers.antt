use Rattle.std.proofs.Common.{subst, sym}
use Rattle.aead.specs.Sealing.{poly_key}
use Rattle.aead.specs.PassStates.{IsSumOf}
use Rattle.aead.proofs.hashes.PolyTagHash.sum.Goals as goal

pub returns : goal.returns
returns c = λ s m held.
    subst (λ by. IsSumOf by c.sum.result.0 c.sum.result.1 s m) (sym held.0) (c.sum.ensures.value (poly_key s.key s.nonce) m held.1)
