use Rattle.std.proofs.Common.{inr}
use Rattle.aead.specs.Ciphers.{setting}
use Rattle.aead.specs.SealSivStream.{SivCounts}
use Rattle.command.proofs.BlamesLemmas.{siv_blames}
use Rattle.command.specs.Code.Engines.{OutletTakes}
use Rattle.command.proofs.FilesLemmas.{sealed_twice, sealing_twice}
use Rattle.command.proofs.files.seal_twice.Goals as goal

pub returns-clause-ran : goal.returns-clause-ran
returns-clause-ran g c =
    let before : SivCounts = record {
      first = g.F.Input.Intake.failures c.in_ok-first.first;
      second = g.F.Input.Intake.failures c.in_ok-second.second;
      outlet = g.O.Outlet.failures c.args.out.now;
    } in
    let after : SivCounts = record {
      first = g.F.Input.Intake.failures c.seal_siv_stream.new.first;
      second = g.F.Input.Intake.failures c.seal_siv_stream.new.second;
      outlet = g.O.Outlet.failures c.seal_siv_stream.new.out;
    } in
    inr (sealing_twice (g.F.Storage.contents c.args.files.now c.args.path.now)
    (OutletTakes (g.O.Outlet.taken c.args.out.now) (g.O.Outlet.taken c.seal_siv_stream.new.out))
    (setting c.args.cipher.now c.args.nonce.now c.args.aad.now) c.seal_siv_stream.result
    c.seal_siv_stream.ensures.by_gcm_siv (sealed_twice (g.F.Storage.contents c.args.files.now c.args.path.now 0)
    (g.F.Storage.contents c.args.files.now c.args.path.now 1)
    (g.F.Input.Intake.left c.in_ok-first.first) (g.F.Input.Intake.left c.in_ok-second.second)
    (g.O.Outlet.taken c.args.out.now) (g.O.Outlet.taken c.seal_siv_stream.new.out)
    (setting c.args.cipher.now c.args.nonce.now c.args.aad.now) before after c.seal_siv_stream.result
    c.in_ok-first.ensures c.in_ok-second.ensures c.seal_siv_stream.ensures.seals))

pub returns-clause-blame : goal.returns-clause-blame
returns-clause-blame g c =
    siv_blames (g.F.Storage.open_may_fail c.args.files.now c.args.path.now) g.F.Input.Intake.failures
    c.in_ok-first.first c.seal_siv_stream.new.first c.in_ok-second.second c.seal_siv_stream.new.second
    (g.O.Outlet.failures c.args.out.now) (g.O.Outlet.failures c.seal_siv_stream.new.out)
    c.seal_siv_stream.result c.seal_siv_stream.ensures.blame
