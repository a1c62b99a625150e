use Rattle.std.proofs.Common.{[]}
use Rattle.std.specs.Io.KnownBytes.{Keeps, prepend_known}
use Rattle.command.proofs.readings.take_all.Given as goal

abbrev pub invariant-loop : goal.invariant-loop
invariant-loop g l = Keeps (prepend_known [] (g.I.Intake.left l.initial.input))
    (prepend_known l.bytes.items (g.I.Intake.left l.input))
