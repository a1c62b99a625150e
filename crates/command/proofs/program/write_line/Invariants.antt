use Rattle.std.proofs.Common.{length, ◌≤◌, take}
use Rattle.std.specs.Io.KnownBytes.{Appends}
use Rattle.command.proofs.program.write_line.Given as goal

abbrev pub invariant-loop : goal.invariant-loop
invariant-loop g l = record {
  in_range : l.at ≤ length l.line;
  written : Appends (g.E.Write.contents l.initial.err) (g.E.Write.contents l.err) (take l.at l.line);
}
