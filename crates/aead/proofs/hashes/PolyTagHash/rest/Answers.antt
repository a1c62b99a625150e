use Rattle.aead.specs.Sealing.{poly_key}
use Rattle.aead.proofs.hashes.PolyTagHash.rest.Goals as goal

pub returns-clause-value : goal.returns-clause-value
returns-clause-value c = λ s m held. c.rest.ensures.value (poly_key s.key s.nonce) m held.1
