use Rattle.aead.specs.Ciphers.{Keyed}
use Rattle.aead.specs.AnyCiphers.{keyed_of}
use Rattle.command.specs.Aead.{IsReady}
use Rattle.command.proofs.commands.seal.Goals as goal

pub returns : goal.returns
returns g c =
    let keyed : Keyed = keyed_of c.in_ok-call.call.cipher in
    let nonce = c.in_ok-call.call.nonce in
    let ready : IsReady c.args.words.now keyed nonce c.deref.result.now c.deref-2.result.now =
    rw (c.deref.ensures.value, c.deref-2.ensures.value) c.in_ok-call.ensures in
    record {
      keyed = keyed;
      nonce = nonce;
      aad = c.deref.result.now;
      body = c.deref-2.result.now;
      ready = ready;
      is = c.in_ok-seal.ensures;
    }
