use Rattle.std.proofs.Common.{◌≡◌, ◌∙◌, drop, inl, refl, sym, ap, Err, true≢false}
use Rattle.std.proofs.lemmas.Result.{err_from_is_err_and}
use Rattle.command.proofs.BlamesLemmas.{count_blames}
use Rattle.command.specs.Files.{Engine}
use Rattle.command.proofs.FilesLemmas.{exit_err, exit_write, exit_done, write_is_late}
use Rattle.command.proofs.FilesLemmas.{refuses, refuses_two, ran_err_not_words}
use Rattle.command.proofs.files.write_file.Goals as goal

pub returns-in_err-run_command-clause-answer : goal.returns-in_err-run_command-clause-answer
returns-in_err-run_command-clause-answer g c =
    let p = err_from_is_err_and c.from_residual.result c.from_residual.ensures.1 in
    rw (p.1, p.2) (exit_err c.args.words.now.command
    (g.F.Storage.contents c.args.files.now c.args.words.now.input.now) c.args.words.now.inputs _
    (g.F.Storage.blank c.run_command.new.out.files.now c.run_command.new.out.path.now) g.F.Output.Outlet.taken
    c.run_command.new.out.file (drop c.run_command.new.out.written c.run_command.new.out.pending.items)
    (c.run_command.new.out ≡ c.args.file.now) (c.run_command.new.out.file ≡ c.args.file.now.file)
    c.in_err-run_command.field-0.0 (λ p. (cc)) c.in_err-run_command.ensures.ran)

pub returns-in_err-finish-clause-answer : goal.returns-in_err-finish-clause-answer
returns-in_err-finish-clause-answer g c =
    let p = err_from_is_err_and c.from_residual-in_err-finish.result
    c.from_residual-in_err-finish.ensures.1 in
    rw (p.1, p.2, c.in_err-finish.ensures.fault)
    (exit_write c.args.words.now.command
    (g.F.Storage.contents c.args.files.now c.args.words.now.input.now) c.args.words.now.inputs _ _
    (g.F.Storage.blank c.finish.new.self.files.now c.finish.new.self.path.now) g.F.Output.Outlet.taken
    c.finish.new.self.file (drop c.finish.new.self.written c.finish.new.self.pending.items)
    (c.finish.new.self.file ≡ c.args.file.now.file)
    c.in_ok-run_command.ensures.ran c.in_err-finish.ensures.taken)

pub returns-clause-answer : goal.returns-clause-answer
returns-clause-answer g c =
    exit_done c.args.words.now.command
    (g.F.Storage.contents c.args.files.now c.args.words.now.input.now) c.args.words.now.inputs _ _
    (g.F.Storage.blank c.finish.new.self.files.now c.finish.new.self.path.now) g.F.Output.Outlet.taken
    c.finish.new.self.file c.finish.new.self.written c.finish.new.self.pending.items
    c.in_ok-run_command.ensures.ran c.in_ok-finish.ensures.taken c.in_ok-finish.ensures.none_left
    c.in_ok-finish.ensures.made

pub returns-in_err-finish-clause-untouched : goal.returns-in_err-finish-clause-untouched
returns-in_err-finish-clause-untouched g c =
    let p = err_from_is_err_and c.from_residual-in_err-finish.result
    c.from_residual-in_err-finish.ensures.1 in
    rw (p.1, p.2, c.in_err-finish.ensures.fault) (inl (write_is_late c.args.words.now.command _ refl))

pub returns-in_err-run_command-clause-blame : goal.returns-in_err-run_command-clause-blame
returns-in_err-run_command-clause-blame g c =
    let p = err_from_is_err_and c.from_residual.result c.from_residual.ensures.1 in
    rw (p.1, p.2) (count_blames _ _ _ _ c.in_err-run_command.field-0.0 c.run_command.new.out.blame
    c.in_err-run_command.ensures.blame)

pub returns-in_err-finish-clause-blame : goal.returns-in_err-finish-clause-blame
returns-in_err-finish-clause-blame g c =
    let p = err_from_is_err_and c.from_residual-in_err-finish.result
    c.from_residual-in_err-finish.ensures.1 in
    rw (p.1, p.2, c.in_err-finish.ensures.fault) (λ e. absurd (cc), λ _. c.in_err-finish.ensures.blame)

pub returns-in_err-run_command-clause-two_files : goal.returns-in_err-run_command-clause-two_files
returns-in_err-run_command-clause-two_files g c =
    let p = err_from_is_err_and c.from_residual.result c.from_residual.ensures.1 in
    refuses (g.F.Storage.leads_to c.args.files.now c.args.words.now.input.now)
    (g.F.Storage.leads_to c.args.files.now c.args.words.now.output.now) c.identity.result c.identity-2.result
    c.from_residual.result c.identity.ensures c.identity-2.ensures
    (refuses_two c.identity.result c.identity-2.result c.from_residual.result
    (λ is. true≢false (sym (c.is_one_file.ensures.1 is) ∙ c.if-is_one_file.false))
    (ran_err_not_words (Engine c.args.words.now.command
    (g.F.Storage.contents c.args.files.now c.args.words.now.input.now)) c.args.words.now.inputs _ _ _
    c.in_err-run_command.field-0.0 c.from_residual.result (p.1 ∙ ap Err p.2) c.in_err-run_command.ensures.ran))
