use Rattle.std.proofs.Common.{ap, ap₂, sym, ◌∙◌}
use Rattle.aes.specs.Cipher.{cipher}
use Rattle.aead.specs.Sealing.{tag_block, tag_over, tag_over_by}
use Rattle.aead.specs.Code.States.{digest_by}
use Rattle.aead.proofs.gcm_siv.encrypted_tag.Goals as goal

pub returns : goal.returns
unfolding tag_over tag_over_by
returns c = λ s m by key nonce digest.
    c.new.ensures.value ∙ c.bytes-3.ensures.value ∙ c.encrypt_in_registers.ensures.value
    ∙ ap₂ cipher key
    (c.new-block.ensures.value ∙ c.tag_block.ensures
    ∙ ap₂ tag_block (c.bytes.ensures.value ∙ digest ∙ ap (λ x. digest_by x s m) by) (c.bytes-2.ensures.value ∙ nonce))
    ∙ sym (ap (λ x. tag_over_by x s.key s.nonce s.aad m) by)
