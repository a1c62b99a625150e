use Rattle.aead.specs.Ciphers.{setting}
use Rattle.aead.specs.AnyCiphers.{keyed_of}
use Rattle.aead.proofs.Found.{found}
use Rattle.aead.proofs.whole.open.Goals as goal

pub returns-clause-found : goal.returns-clause-found
returns-clause-found g c =
    found (λ v. v.items) c.sealing_has_one_text.ensures
    (setting (keyed_of c.args.cipher.now) c.args.nonce.now c.args.aad.now) c.args.sealed.now
    c.opened_text.result c.opened_text.ensures

pub returns-clause-answer : goal.returns-clause-answer
returns-clause-answer g c = c.opened_text.ensures
