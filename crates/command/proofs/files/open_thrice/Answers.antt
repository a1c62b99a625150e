use Rattle.std.proofs.Common.{inr}
use Rattle.aead.specs.Ciphers.{setting}
use Rattle.aead.specs.AnyCiphers.{keyed_of}
use Rattle.aead.specs.Verdict.{FailureCounts, counted}
use Rattle.command.proofs.BlamesLemmas.{open_blames}
use Rattle.command.proofs.FilesLemmas.{opened_thrice}
use Rattle.command.proofs.files.open_thrice.Goals as goal

pub returns-clause-ran : goal.returns-clause-ran
returns-clause-ran g c =
    let before : FailureCounts = counted (g.F.Input.Intake.failures c.in_ok-measure.measure)
    (g.F.Input.Intake.failures c.in_ok-verify.verify) (g.F.Input.Intake.failures c.in_ok-write.write)
    (g.O.Outlet.failures c.args.out.now) in
    let after : FailureCounts = counted (g.F.Input.Intake.failures c.open_stream.new.measure)
    (g.F.Input.Intake.failures c.open_stream.new.verify) (g.F.Input.Intake.failures c.open_stream.new.write)
    (g.O.Outlet.failures c.open_stream.new.out) in
    inr (opened_thrice (g.F.Storage.contents c.args.files.now c.args.path.now 0)
    (g.F.Storage.contents c.args.files.now c.args.path.now 1)
    (g.F.Storage.contents c.args.files.now c.args.path.now 2)
    (g.F.Input.Intake.left c.in_ok-measure.measure) (g.F.Input.Intake.left c.in_ok-verify.verify)
    (g.F.Input.Intake.left c.in_ok-write.write) (g.O.Outlet.taken c.args.out.now)
    (g.O.Outlet.taken c.open_stream.new.out)
    (setting (keyed_of c.args.cipher.now) c.args.nonce.now c.args.aad.now) before after c.open_stream.result
    c.in_ok-measure.ensures c.in_ok-verify.ensures c.in_ok-write.ensures c.open_stream.ensures.opens)

pub returns-clause-blame : goal.returns-clause-blame
returns-clause-blame g c =
    open_blames (g.F.Storage.open_may_fail c.args.files.now c.args.path.now) g.F.Input.Intake.failures
    c.in_ok-measure.measure c.open_stream.new.measure c.in_ok-verify.verify c.open_stream.new.verify
    c.in_ok-write.write c.open_stream.new.write (g.O.Outlet.failures c.args.out.now)
    (g.O.Outlet.failures c.open_stream.new.out) c.open_stream.result c.open_stream.ensures.blame
