use Rattle.std.proofs.Common.{◌≡◌, length, ap, ap₂, sym, take, drop, ◌∙◌}
use Rattle.std.proofs.lemmas.List.{take_at, drop_at}
use Rattle.aes.specs.Cipher.{cipher}
use Rattle.aead.specs.Sealing.{j0, hash_key}
use Rattle.aead.proofs.gcm.message_secret.Goals as goal

pub returns : goal.returns
unfolding j0
returns c = λ s key nonce.
    let first = c.bytes.result.now in
    let second = c.bytes-2.result.now in
    let long : length first ≡ 16 = ap length c.bytes.ensures.value ∙ c.bytes.ensures.are_bytes.length_is in
    let mask : second ≡ cipher s.key (j0 s.nonce) =
    c.bytes-2.ensures.value ∙ c.encrypt_in_registers.ensures.value
    ∙ ap₂ cipher (sym key) (c.nonce_and_counter.ensures.value ∙ ap j0 (sym nonce)) in (
      ap (take 16) c.joined.ensures ∙ take_at first second 16 long ∙ c.bytes.ensures.value ∙ c.requires
          ∙ ap hash_key (sym key),
      ap (drop 16) c.joined.ensures ∙ drop_at first second 16 long ∙ mask,
    )
