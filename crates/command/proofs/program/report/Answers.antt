use Rattle.octets.proofs.Devices.{appends_none}
use Rattle.command.proofs.LinesLemmas.{line_is, begins}
use Rattle.command.proofs.program.report.Goals.{in-Ok, in_default}
use Rattle.command.proofs.program.report.Goals as goal

pub returns-clause-line : goal.returns-clause-line
returns-clause-line g c =
    elim c.match-writeln.branch [
      | in-Ok w ↦ rw w.err-is (begins _ _ _ _ _
          (line_is _ _ _ _ _ c.new-line.ensures.text c.new-line.ensures.intact w.in-Ok.ensures.writes
          w.as_str.ensures.value w.as_bytes.ensures.value) w.write_line.ensures)
      | in_default w ↦ rw w.err-is (0, appends_none _)
    ]
