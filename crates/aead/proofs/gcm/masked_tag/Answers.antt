use Rattle.std.proofs.Common.{ap, ap₂, sym, ◌∙◌}
use Rattle.octets.specs.Bytes.{xor_bytes}
use Rattle.aead.specs.Sealing.{tag_over, tag_over_by}
use Rattle.aead.specs.Code.States.{digest_by}
use Rattle.aead.proofs.gcm.masked_tag.Goals as goal

pub returns : goal.returns
unfolding tag_over tag_over_by
returns c = λ s m by mask digest.
    c.new.ensures.value ∙ c.xored.ensures
    ∙ ap₂ xor_bytes (c.bytes.ensures.value ∙ mask) (c.bytes-2.ensures.value ∙ digest ∙ ap (λ x. digest_by x s m) by)
    ∙ sym (ap (λ x. tag_over_by x s.key s.nonce s.aad m) by)
