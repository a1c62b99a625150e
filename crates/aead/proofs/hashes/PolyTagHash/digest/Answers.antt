use Rattle.std.proofs.Common.{ℕ, List, ◌++◌, ◌∙◌}
use Rattle.octets.specs.Bytes.{pad16}
use Rattle.aead.specs.Sealing.{poly_key}
use Rattle.aead.proofs.Tags.{poly1305_over}
use Rattle.aead.proofs.hashes.PolyTagHash.digest.Goals as goal

pub returns : goal.returns
returns c = λ s m h fits is_aad is_bytes.
    let k : List ℕ = poly_key s.key s.nonce in
    poly1305_over s m _ _ _ h.0 is_aad is_bytes
    (c.new.ensures.value ∙ c.bytes.ensures.value ∙ c.tag.ensures.value k _ (c.pad16_and_add_two.ensures k (pad16 s.aad ++ m) h.1))
