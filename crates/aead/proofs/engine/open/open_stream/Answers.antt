use Rattle.std.proofs.Common.{◌≡◌, ◌<◌, [], length, arith, ap, refl, sym, subst, true≢false, ◌∙◌, Err}
use Rattle.std.proofs.lemmas.Result.{err_from_is_err_and}
use Rattle.octets.specs.declared.fault.Fault.TheVariants.{AadTooLong}
use Rattle.aead.specs.Suites.{is_one_pass, aad_limit}
use Rattle.aead.specs.Sealing.{Setting}
use Rattle.aead.specs.Ciphers.{Keyed, setting}
use Rattle.aead.specs.AnyCiphers.{keyed_of, one_pass_keyed}
use Rattle.aead.specs.PassStates.{HoldsNumbers}
use Rattle.aead.specs.Code.Findings.{BeginsOpening}
use Rattle.aead.specs.Code.MessageKeys.{AreDerived}
use Rattle.aead.specs.Verdict.{counted}
use Rattle.aead.proofs.StreamExits.{exit_aad}
use Rattle.aead.proofs.engine.open.open_stream.Goals as goal

pub returns-in_err-check_aad-clause-opens : goal.returns-in_err-check_aad-clause-opens
returns-in_err-check_aad-clause-opens g c =
    let s : Setting = setting (keyed_of c.args.cipher.now) c.args.nonce.now
    c.args.aad.now in
    let long : aad_limit s.suite < length s.aad =
    omega (arith, c.in_err-check_aad.ensures.1, ap aad_limit c.suite.ensures) in
    let p = err_from_is_err_and c.from_residual.result c.from_residual.ensures.1 in
    let e : c.from_residual.result ≡ Err AadTooLong =
    p.1 ∙ ap Err (p.2 ∙ c.in_err-check_aad.ensures.0) in
    rw e (exit_aad (g.I.Intake.left c.args.measure.now) (g.J.Intake.left c.args.verify.now)
    (g.K.Intake.left c.args.write.now) (g.O.Outlet.taken c.args.out.now) s
    (counted (g.I.Intake.failures c.args.measure.now) (g.J.Intake.failures c.args.verify.now)
    (g.K.Intake.failures c.args.write.now) (g.O.Outlet.failures c.args.out.now))
    long)

pub open_over-requires-in-Siv : goal.open_over-requires-in-Siv
open_over-requires-in-Siv g c =
    let s : Setting = setting c.in-Siv.cipher c.args.nonce.now c.args.aad.now in
    let suite = c.suite.ensures ∙ ap (λ k. (keyed_of k).suite) c.in-Siv.is in
    let d = c.derive-derived.ensures in
    (c.initial_state-state-in-Siv.ensures s
    (record { by = d.by; encryption_is = d.encryption; multiplier_key_is = (d.block, d.multiplier_key) }) refl
    (omega (arith, c.in_ok-check_aad.ensures, ap aad_limit suite))).length_is

pub returns-in-ChaCha-clause-opens : goal.returns-in-ChaCha-clause-opens
returns-in-ChaCha-clause-opens g c =
    let under = λ (k : Keyed). BeginsOpening c.keys-keys.result c.initial_state-state.result
    (setting k c.args.nonce.now c.args.aad.now) in
    let lent = c.keys-keys.ensures c.args.aad.now in
    let begins : under (one_pass_keyed c.in-OnePass.cipher) =
    record { keys_are = lent.0; state_is = c.initial_state-state.ensures; bytes = λ _. lent.1 } in
    c.open_over.ensures.opens _ (subst under (sym (ap keyed_of c.in-OnePass.is)) begins)

pub returns-in-Gcm-clause-opens : goal.returns-in-Gcm-clause-opens
returns-in-Gcm-clause-opens g c =
    let under = λ (k : Keyed). BeginsOpening c.gcm_keys-keys.result c.initial_state-state.result
    (setting k c.args.nonce.now c.args.aad.now) in
    let lent = c.gcm_keys-keys.ensures c.args.aad.now in
    let state = subst (λ (k : Keyed). HoldsNumbers c.initial_state-state.result (setting k c.args.nonce.now c.args.aad.now) [])
    (ap one_pass_keyed c.in-Gcm.is) c.initial_state-state.ensures in
    let begins : under c.in-Gcm.cipher = record { keys_are = lent.0; state_is = state; bytes = λ _. lent.1 } in
    c.open_over-in-Gcm.ensures.opens _
    (subst under (sym (ap keyed_of c.in-OnePass.is ∙ ap one_pass_keyed c.in-Gcm.is)) begins)

pub returns-in-Siv-clause-opens : goal.returns-in-Siv-clause-opens
returns-in-Siv-clause-opens g c =
    let under = λ (k : Keyed). BeginsOpening c.message_keys-keys.result c.initial_state-state-in-Siv.result
    (setting k c.args.nonce.now c.args.aad.now) in
    let s : Setting = setting c.in-Siv.cipher c.args.nonce.now c.args.aad.now in
    let suite = c.suite.ensures ∙ ap (λ k. (keyed_of k).suite) c.in-Siv.is in
    let d = c.derive-derived.ensures in
    let derived : AreDerived c.derive-derived.result s =
    record { by = d.by; encryption_is = d.encryption; multiplier_key_is = (d.block, d.multiplier_key) } in
    let begins : under c.in-Siv.cipher = record {
      keys_are = c.message_keys-keys.ensures.keys s derived c.of-multiplier.ensures refl;
      state_is = c.initial_state-state-in-Siv.ensures s derived refl
          (omega (arith, c.in_ok-check_aad.ensures, ap aad_limit suite));
      bytes = λ one. absurd (true≢false (sym one ∙ ap is_one_pass d.by));
    } in
    c.open_over-in-Siv.ensures.opens _ (subst under (sym (ap keyed_of c.in-Siv.is)) begins)
