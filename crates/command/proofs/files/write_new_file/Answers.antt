use Rattle.std.proofs.Common.{Err, ap, ◌∙◌}
use Rattle.std.proofs.lemmas.Result.{err_from_is_err_and}
use Rattle.command.proofs.FilesLemmas.{unwritten, wrote}
use Rattle.command.proofs.files.write_new_file.Goals as goal

pub returns-in_err-file-clause-wrote : goal.returns-in_err-file-clause-wrote
returns-in_err-file-clause-wrote g c =
    let p = err_from_is_err_and c.from_residual.result c.from_residual.ensures.1 in
    unwritten (g.F.Storage.leads_to c.args.files.now) (g.F.Storage.contents c.args.files.now)
    (g.F.Storage.blank c.args.files.now) g.F.Output.Outlet.taken c.args.request.now c.from_residual.result (p.1 ∙ ap Err p.2)

pub returns-clause-wrote : goal.returns-clause-wrote
returns-clause-wrote g c =
    wrote (g.F.Storage.leads_to c.args.files.now) (g.F.Storage.contents c.args.files.now)
    (g.F.Storage.blank c.args.files.now) g.F.Output.Outlet.taken
    c.args.request.now _ c.in_ok-file.file.file c.write_file.new.file.file c.write_file.result
    c.in_ok-file.ensures.taken c.in_ok-file.ensures.unmade c.write_file.ensures.answer
    c.write_file.ensures.made c.write_file.ensures.status c.write_file.ensures.untouched
    c.write_file.ensures.two_files
