use Rattle.std.proofs.Common.{inr}
use Rattle.aead.specs.Ciphers.{setting}
use Rattle.aead.specs.AnyCiphers.{one_pass_keyed}
use Rattle.command.proofs.BlamesLemmas.{seal_blames}
use Rattle.command.specs.Code.Engines.{OutletTakes}
use Rattle.command.proofs.FilesLemmas.{sealed_once, sealing_once}
use Rattle.command.proofs.files.seal_once.Goals as goal

pub returns-clause-ran : goal.returns-clause-ran
returns-clause-ran g c =
    inr (sealing_once (g.F.Storage.contents c.args.files.now c.args.path.now)
    (OutletTakes (g.O.Outlet.taken c.args.out.now) (g.O.Outlet.taken c.seal_stream.new.out))
    (setting (one_pass_keyed c.args.cipher.now) c.args.nonce.now c.args.aad.now) c.seal_stream.result
    c.seal_stream.ensures.one_pass (sealed_once (g.F.Storage.contents c.args.files.now c.args.path.now 0)
    (g.F.Input.Intake.left c.in_ok-text.text) (g.O.Outlet.taken c.args.out.now)
    (g.O.Outlet.taken c.seal_stream.new.out) (setting (one_pass_keyed c.args.cipher.now) c.args.nonce.now
    c.args.aad.now) (g.F.Input.Intake.failures c.in_ok-text.text)
    (g.F.Input.Intake.failures c.seal_stream.new.text)
    (g.O.Outlet.failures c.args.out.now) (g.O.Outlet.failures c.seal_stream.new.out) c.seal_stream.result
    c.in_ok-text.ensures c.seal_stream.ensures.seals))

pub returns-clause-blame : goal.returns-clause-blame
returns-clause-blame g c =
    seal_blames (g.F.Storage.open_may_fail c.args.files.now c.args.path.now) g.F.Input.Intake.failures
    c.in_ok-text.text c.seal_stream.new.text (g.O.Outlet.failures c.args.out.now)
    (g.O.Outlet.failures c.seal_stream.new.out) c.seal_stream.result c.seal_stream.ensures.blame
