use Rattle.std.proofs.Common.{◌∙◌, sym}
use Rattle.command.proofs.BlamesLemmas.{syncing_may_fail}
use Rattle.command.proofs.new_file.NewFile.finish.Goals as goal

pub returns-in_default-clause-blame : goal.returns-in_default-clause-blame
returns-in_default-clause-blame g c =
    syncing_may_fail g.F.Storage.make_may_fail g.F.Output.Outlet.failures _ c.sync.result c.sync.ensures.blame
    (sym c.is_ok.ensures.value ∙ c.if-is_ok.false)
