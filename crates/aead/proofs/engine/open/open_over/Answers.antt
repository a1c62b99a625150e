use Rattle.std.proofs.Common.{◌≡◌, ℕ, sym, ap, subst, Option, List, Result, Ok, Err, IfSome}
use Rattle.octets.specs.declared.fault.Fault.{Fault}
use Rattle.aead.specs.declared.engine.measure.Measured.{Measured}
use Rattle.aead.specs.Suites.{text_limit_by}
use Rattle.aead.specs.Code.Returns.{MeasureReturns}
use Rattle.aead.proofs.StreamExits.{exit_measure, exit_verify, exit_write}
use Rattle.aead.proofs.engine.open.open_over.Goals as goal

-- the result of the measure reading holds for an equal limit
known_at : (x y : ℕ) (lm : Option (List ℕ)) (before after : ℕ) (r : Result Measured Fault) → x ≡ y
    → IfSome lm (λ m. MeasureReturns x m before after r) → IfSome lm (λ m. MeasureReturns y m before after r)
known_at x y lm before after r e told =
    let P : ℕ → Type 0 = λ z. IfSome lm (λ m. MeasureReturns z m before after r) in subst P e told

pub returns-in-Err-clause-opens : goal.returns-in-Err-clause-opens
returns-in-Err-clause-opens g c = λ s b.
    exit_measure (g.I.Intake.left c.args.measure.now) (g.J.Intake.left c.args.verify.now)
    (g.K.Intake.left c.args.write.now) (g.O.Outlet.taken c.args.out.now) s
    (g.I.Intake.failures c.args.measure.now) (g.I.Intake.failures c.measure_step.new.intake)
    (g.J.Intake.failures c.args.verify.now)
    (g.K.Intake.failures c.args.write.now) (g.O.Outlet.failures c.args.out.now) c.in-Err.fault
    b.state_is.fits.aad_fits (known_at _ _ (g.I.Intake.left c.args.measure.now)
    (g.I.Intake.failures c.args.measure.now) (g.I.Intake.failures c.measure_step.new.intake)
    (Err c.in-Err.fault) (ap text_limit_by (sym b.keys_are.by)) c.in-Err.ensures.known)

pub returns-in-Err-verify_step-clause-opens : goal.returns-in-Err-verify_step-clause-opens
returns-in-Err-verify_step-clause-opens g c = λ s b.
    exit_verify (g.I.Intake.left c.args.measure.now) (g.J.Intake.left c.args.verify.now)
    (g.K.Intake.left c.args.write.now) (g.O.Outlet.taken c.args.out.now) s
    c.in-Ok.measured
    (g.I.Intake.failures c.args.measure.now) (g.I.Intake.failures c.measure_step.new.intake)
    (g.J.Intake.failures c.args.verify.now) (g.J.Intake.failures c.verify_step.new.intake)
    (g.K.Intake.failures c.args.write.now) (g.O.Outlet.failures c.args.out.now) c.in-Err-verify_step.fault
    b.state_is.fits.aad_fits (known_at _ _ (g.I.Intake.left c.args.measure.now)
    (g.I.Intake.failures c.args.measure.now) (g.I.Intake.failures c.measure_step.new.intake)
    (Ok c.in-Ok.measured) (ap text_limit_by (sym b.keys_are.by)) c.in-Ok.ensures.known)
    (c.in-Err-verify_step.ensures.known s b)

pub returns-in-Ok-verify_step-clause-opens : goal.returns-in-Ok-verify_step-clause-opens
returns-in-Ok-verify_step-clause-opens g c = λ s b.
    exit_write (g.I.Intake.left c.args.measure.now) (g.J.Intake.left c.args.verify.now)
    (g.K.Intake.left c.args.write.now)
    (g.O.Outlet.taken c.args.out.now) (g.O.Outlet.taken c.write_step.new.outlet) s
    c.in-Ok.measured
    (g.I.Intake.failures c.args.measure.now) (g.I.Intake.failures c.measure_step.new.intake)
    (g.J.Intake.failures c.args.verify.now) (g.J.Intake.failures c.verify_step.new.intake)
    (g.K.Intake.failures c.args.write.now) (g.K.Intake.failures c.write_step.new.intake)
    (g.O.Outlet.failures c.args.out.now) (g.O.Outlet.failures c.write_step.new.outlet) c.write_step.result
    b.state_is.fits.aad_fits (known_at _ _ (g.I.Intake.left c.args.measure.now)
    (g.I.Intake.failures c.args.measure.now) (g.I.Intake.failures c.measure_step.new.intake)
    (Ok c.in-Ok.measured) (ap text_limit_by (sym b.keys_are.by)) c.in-Ok.ensures.known)
    (c.in-Ok-verify_step.ensures.known s b) (c.write_step.ensures.known s b)
