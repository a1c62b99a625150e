use Rattle.vectors.specs.Lines.{lines_of}
use Rattle.vectors.proofs.Progress.{reported}
use Rattle.vectors.proofs.reading.check.Goals as goal

pub returns-clause-found : goal.returns-clause-found
returns-clause-found g c =
    λ records file. reported (lines_of c.args.file.now) records c.read.result file c.read.ensures.fault
