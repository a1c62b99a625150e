use Rattle.std.proofs.Common.{◌≡◌, ◌∙◌, ap, arith, refl, Err}
use Rattle.std.proofs.lemmas.Result.{err_from_is_err_and}
use Rattle.octets.specs.declared.fault.Fault.TheVariants.{AadTooLong}
use Rattle.aead.specs.Suites.{aad_limit}
use Rattle.aead.specs.Sealing.{Setting}
use Rattle.aead.specs.Ciphers.{setting}
use Rattle.aead.specs.Code.MessageKeys.{AreDerived}
use Rattle.aead.proofs.SivExits.{exit_aad}
use Rattle.aead.proofs.engine.seal_siv.seal_siv_stream.Goals as goal

pub returns-in_err-check_aad-clause-seals : goal.returns-in_err-check_aad-clause-seals
returns-in_err-check_aad-clause-seals g c =
    let s : Setting = setting c.args.cipher.now c.args.nonce.now c.args.aad.now in
    let p = err_from_is_err_and c.from_residual.result c.from_residual.ensures.1 in
    let e : c.from_residual.result ≡ Err AadTooLong =
    p.1 ∙ ap Err (p.2 ∙ c.in_err-check_aad.ensures.0) in
    rw e (exit_aad (g.I.Intake.left c.args.first.now) (g.J.Intake.left c.args.second.now)
    (g.O.Outlet.taken c.args.out.now) s
    (record {
      first = g.I.Intake.failures c.args.first.now;
      second = g.J.Intake.failures c.args.second.now;
      outlet = g.O.Outlet.failures c.args.out.now;
    })
    (λ h. omega (arith, h, c.in_err-check_aad.ensures.1, ap aad_limit c.suite.ensures.value)))

pub seal_in_two-requires : goal.seal_in_two-requires
seal_in_two-requires g c =
    let s : Setting = setting c.args.cipher.now c.args.nonce.now c.args.aad.now in
    let d = c.derive-derived.ensures in
    (c.initial_state-state.ensures s
    (record { by = d.by; encryption_is = d.encryption; multiplier_key_is = (d.block, d.multiplier_key) }) refl
    (omega (arith, c.in_ok-check_aad.ensures, ap aad_limit c.suite.ensures.value))).length_is

pub returns-clause-seals : goal.returns-clause-seals
returns-clause-seals g c =
    let s : Setting = setting c.args.cipher.now c.args.nonce.now c.args.aad.now in
    let d = c.derive-derived.ensures in
    let derived : AreDerived c.derive-derived.result s =
    record { by = d.by; encryption_is = d.encryption; multiplier_key_is = (d.block, d.multiplier_key) } in
    c.seal_in_two.ensures.seals s d.by (c.message_keys-keys.ensures.keys s derived c.of-multiplier.ensures refl)
    (c.initial_state-state.ensures s derived refl
    (omega (arith, c.in_ok-check_aad.ensures, ap aad_limit c.suite.ensures.value)))
