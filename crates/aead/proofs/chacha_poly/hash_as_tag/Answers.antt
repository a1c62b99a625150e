use Rattle.std.proofs.Common.{ap, sym, ◌∙◌}
use Rattle.aead.specs.Sealing.{tag_over, tag_over_by}
use Rattle.aead.specs.Code.States.{digest_by}
use Rattle.aead.proofs.chacha_poly.hash_as_tag.Goals as goal

pub returns : goal.returns
unfolding tag_over tag_over_by
returns c = λ s m by digest.
    c.new.ensures.value ∙ c.bytes.ensures.value ∙ digest ∙ ap (λ x. digest_by x s m) by
    ∙ sym (ap (λ x. tag_over_by x s.key s.nonce s.aad m) by)
