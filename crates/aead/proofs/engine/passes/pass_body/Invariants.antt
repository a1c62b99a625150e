use Rattle.std.proofs.Common.{◌+◌, ◌-◌, ◌≡◌, ℕ, ◌≤◌, List, [], length}
use Rattle.aead.specs.Code.Passes.{HasPassed}
use Rattle.aead.proofs.engine.passes.pass_body.Given as goal

abbrev pub invariant-loop-done : goal.invariant-loop-done
invariant-loop-done g l = record {
  in_range : l.done ≤ l.length;
  room : g.S.Stage.room l.initial.stage ≤ g.S.Stage.room l.stage + l.done;
  went : (m : g.S.Stage.Message) → g.S.Stage.holds m l.initial.stage [] →
      (bytes : List ℕ) × HasPassed (g.S.Stage.holds m) (g.S.Stage.mask m) []
      (g.I.Intake.left l.initial.intake) (g.I.Intake.left l.intake)
      (g.O.Outlet.taken l.initial.outlet) (g.O.Outlet.taken l.outlet) l.stage bytes
      × (length bytes ≡ l.done);
  read : g.I.Intake.failures l.intake ≡ g.I.Intake.failures l.initial.intake;
  wrote : g.O.Outlet.failures l.outlet ≡ g.O.Outlet.failures l.initial.outlet;
}

abbrev pub decreases-loop-done : goal.decreases-loop-done
decreases-loop-done g l = l.length - l.done
