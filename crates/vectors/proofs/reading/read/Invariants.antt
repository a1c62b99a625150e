use Rattle.std.proofs.Common.{◌+◌, ◌≤◌, length}
use Rattle.vectors.specs.Lines.{lines_of}
use Rattle.vectors.specs.Code.Views.{view}
use Rattle.vectors.proofs.Judged.{Judged}
use Rattle.vectors.proofs.reading.read.Given as goal

abbrev pub invariant-loop-line : goal.invariant-loop-line
invariant-loop-line g l = record {
  so_far : Judged (lines_of l.fn.file) (lines_of l.rest) l.count (view l.place) l.report.records
      l.report.bad.items;
  room : l.count + length l.rest ≤ length l.fn.file;
}

abbrev pub decreases-loop-line : goal.decreases-loop-line
decreases-loop-line g l = length l.rest
