use Rattle.std.proofs.Common.{rules, ◌≡◌, subst}
use Rattle.std.specs.Prelude.{◌↔◌, IfOk, IsTrue}
use Rattle.aead.specs.AnyCiphers.{keyed_of}
use Rattle.aead.specs.Ciphers.{setting}
use Rattle.aead.specs.Sealing.{Setting, Opened}
use Rattle.vectors.specs.declared.suite.Algorithm.TheVariants.{Aead}
use Rattle.vectors.specs.Code.Views.{entry_view}
use Rattle.vectors.specs.Agreement.{TextIs}
use Rattle.vectors.proofs.AgreeLemmas.{held_agrees}
use Rattle.vectors.proofs.agree.aead_agrees.Goals as goal

pub returns : goal.returns
returns g c =
    let e = entry_view c.args.entry.now in
    let same : setting (keyed_of c.in-Ok.cipher) c.new-nonce.result c.deref.result.now
    ≡ record { suite = c.args.suite; key = e.key; nonce = e.nonce; aad = e.aad } = search rules in
    held_agrees e c.sealing_agrees.result (Aead c.args.suite) c.requires.suite
    (subst (λ (s : Setting). IfOk c.sealing_agrees.result (λ b. IsTrue b ↔ TextIs (Opened s e.sealed) e.text)) same
    c.sealing_agrees.ensures)
