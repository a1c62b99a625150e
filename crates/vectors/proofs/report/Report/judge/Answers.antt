use Rattle.vectors.specs.Code.Views.{entry_view}
use Rattle.vectors.proofs.AgreeLemmas.{judges}
use Rattle.vectors.proofs.report.Report.judge.Goals as goal

pub returns : goal.returns
returns g c =
    judges c.count.result c.args.self.now.records c.count.new.self.records c.args.self.now.bad.items
    c.count.new.self.bad.items (entry_view c.args.entry.now) c.in_ok-agrees.agrees
    c.in_ok-agrees.ensures c.count.ensures.records c.count.ensures.bad
