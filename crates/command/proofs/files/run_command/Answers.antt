use Rattle.std.proofs.Common.{◌≡◌}
use Rattle.std.proofs.lemmas.Result.{err_from_is_err_and}
use Rattle.aead.specs.Ciphers.{Keyed, setting}
use Rattle.aead.specs.AnyCiphers.{keyed_of}
use Rattle.command.specs.Aead.{IsReady}
use Rattle.command.specs.Files.{Engine}
use Rattle.command.proofs.BlamesLemmas.{fault_blames}
use Rattle.command.proofs.FilesLemmas.{ran_ok, ran_err}
use Rattle.command.proofs.files.run_command.Goals as goal

pub returns-in_err-run_engine-clause-ran : goal.returns-in_err-run_engine-clause-ran
returns-in_err-run_engine-clause-ran g c =
    let p = err_from_is_err_and c.from_residual-in_err-run_engine.result
    c.from_residual-in_err-run_engine.ensures.1 in
    let keyed : Keyed = keyed_of c.in_ok-inputs.inputs.cipher in
    let ready : IsReady c.args.words.now.inputs keyed c.in_ok-inputs.inputs.nonce c.deref.result.now
    c.in_ok-inputs.inputs.body.items = rw c.deref.ensures.value c.in_ok-inputs.ensures in
    rw (p.1, p.2) (ran_err
    (Engine c.args.words.now.command (g.F.Storage.contents c.args.files.now c.args.words.now.input.now))
    c.args.words.now.inputs keyed c.in_ok-inputs.inputs.nonce c.deref.result.now
    c.in_ok-inputs.inputs.body.items (g.O.Outlet.taken c.args.out.now) (g.O.Outlet.taken c.run_engine.new.out)
    (c.run_engine.new.out ≡ c.args.out.now) c.in_err-run_engine.field-0.0 ready c.in_err-run_engine.ensures.ran)

pub returns-clause-ran : goal.returns-clause-ran
returns-clause-ran g c =
    let keyed : Keyed = keyed_of c.in_ok-inputs.inputs.cipher in
    let ready : IsReady c.args.words.now.inputs keyed c.in_ok-inputs.inputs.nonce c.deref.result.now
    c.in_ok-inputs.inputs.body.items = rw c.deref.ensures.value c.in_ok-inputs.ensures in
    record {
      keyed = keyed;
      nonce = c.in_ok-inputs.inputs.nonce;
      aad = c.deref.result.now;
      body = c.in_ok-inputs.inputs.body.items;
      ready = ready;
      is = ran_ok
          (Engine c.args.words.now.command (g.F.Storage.contents c.args.files.now c.args.words.now.input.now))
          (setting keyed c.in_ok-inputs.inputs.nonce c.deref.result.now) (g.O.Outlet.taken c.args.out.now)
          (g.O.Outlet.taken c.run_engine.new.out) (c.run_engine.new.out ≡ c.args.out.now) c.in_ok-run_engine.field-0 c.in_ok-run_engine.ensures.ran;
    }

pub returns-in_err-run_engine-clause-blame : goal.returns-in_err-run_engine-clause-blame
returns-in_err-run_engine-clause-blame g c =
    let p = err_from_is_err_and c.from_residual-in_err-run_engine.result
    c.from_residual-in_err-run_engine.ensures.1 in
    rw (p.1, p.2) (fault_blames _ _ c.in_err-run_engine.field-0.0 c.in_err-run_engine.ensures.blame)
