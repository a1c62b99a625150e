use Rattle.std.proofs.Common.{refl, ap, sym, subst, ◌∙◌}
use Rattle.aead.specs.Suites.{construction_of}
use Rattle.aead.specs.Ciphers.{setting}
use Rattle.aead.specs.AnyCiphers.{one_pass_keyed}
use Rattle.aead.specs.Sealing.{poly_key}
use Rattle.aead.specs.PassStates.{IsMessageSecret}
use Rattle.aead.proofs.any.AnyOnePass.initial_state.Goals as goal

pub returns-in-ChaCha : goal.returns-in-ChaCha
returns-in-ChaCha c =
    let s = setting (one_pass_keyed c.args.self.now) c.args.nonce.now c.args.aad.now in
    let by = ap (λ k. construction_of (one_pass_keyed k).suite) c.in-ChaCha.is ∙ c.key.ensures.by in
    let own = ap (λ k. (one_pass_keyed k).key) c.in-ChaCha.is ∙ sym c.key.ensures.key in
    c.initial.ensures s by
    (subst (λ x. IsMessageSecret x c.one_time_key.result s) (sym by)
    (c.one_time_key.ensures ∙ ap (λ k. poly_key k c.args.nonce.now) (sym own)))
    refl c.requires

pub returns-in-Gcm : goal.returns-in-Gcm
returns-in-Gcm c =
    let s = setting (one_pass_keyed c.args.self.now) c.args.nonce.now c.args.aad.now in
    let by = ap (λ k. construction_of (one_pass_keyed k).suite) c.in-Gcm.is ∙ c.keys.ensures.by in
    let is = ap (λ k. (one_pass_keyed k).key) c.in-Gcm.is in
    c.initial_state.ensures s by (c.message_secret-secret.ensures s (is ∙ sym c.keys.ensures.key) refl) refl c.requires
