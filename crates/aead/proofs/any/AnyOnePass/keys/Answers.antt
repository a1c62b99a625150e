use Rattle.std.proofs.Common.{◌≡◌, true, ap, sym, subst, ◌∙◌}
use Rattle.aead.specs.Suites.{construction_of, is_one_pass}
use Rattle.aead.specs.Sealing.{Setting}
use Rattle.aead.specs.Ciphers.{Keyed, setting}
use Rattle.aead.specs.AnyCiphers.{one_pass_keyed}
use Rattle.aead.specs.Code.MessageKeys.{AreKeysOf}
use Rattle.aead.specs.Pieces.{MasksByBytes}
use Rattle.aead.proofs.ByteMasks.{mask_small}
use Rattle.aead.proofs.KeyedPasses.{not_chacha}
use Rattle.aead.proofs.any.AnyOnePass.keys.Goals as goal

pub returns-in-ChaCha : goal.returns-in-ChaCha
returns-in-ChaCha c = λ aad.
    let s : Setting = setting (one_pass_keyed c.args.self.now) c.args.nonce.now aad in
    let by = ap (λ k. construction_of (one_pass_keyed k).suite) c.in-ChaCha.is ∙ c.key.ensures.by in
    let own = ap (λ k. (one_pass_keyed k).key) c.in-ChaCha.is ∙ sym c.key.ensures.key in (
      record { by = by; cipher = c.bytes.ensures.value ∙ sym own; nonce_is = c.bytes-in-ChaCha.ensures.value },
      λ tag i. mask_small s tag (ap is_one_pass by) (λ e. absurd (not_chacha (sym e ∙ by))) i,
      ap is_one_pass by,
    )

pub returns-in-Gcm : goal.returns-in-Gcm
returns-in-Gcm c = λ aad.
    subst (λ (k : Keyed). let s = setting k c.args.nonce.now aad in
    AreKeysOf c.gcm_keys.result s × MasksByBytes s × (is_one_pass (construction_of s.suite) ≡ true))
    (sym (ap one_pass_keyed c.in-Gcm.is)) (c.gcm_keys.ensures aad)
