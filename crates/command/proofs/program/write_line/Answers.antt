use Rattle.std.proofs.Common.{arith}
use Rattle.std.proofs.KnownBytes.{Appends-kept}
use Rattle.std.proofs.lemmas.Grind.{common_steps}
use Rattle.octets.proofs.Devices.{appends_from}
use Rattle.command.proofs.program.write_line.Goals.{in-Ok, in-Err}
use Rattle.command.proofs.program.write_line.Goals as goal

pub loop-preserved : goal.loop-preserved
loop-preserved g c =
    elim c.match-write.branch [
      | in-Ok w ↦ rw w.at-is (record {
        in_range = grind (arith, common_steps);
        written = appends_from _ _ _ _ _ _ c.loop.invariant.written w.in-Ok.ensures.bytes;
      })
      | in-Err w ↦ rw w.at-is (record {
        in_range = c.loop.invariant.in_range;
        written = Appends-kept _ _ _ _ c.loop.invariant.written w.in-Err.ensures.bytes;
      })
    ]
