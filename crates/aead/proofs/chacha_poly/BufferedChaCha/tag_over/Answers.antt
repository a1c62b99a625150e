use Rattle.std.proofs.Common.{[], sym, refl, arith}
use Rattle.aead.specs.Sealing.{Setting}
use Rattle.aead.specs.Ciphers.{setting}
use Rattle.aead.specs.declared.suite.Suite.TheVariants.{ChaCha20Poly1305}
use Rattle.aead.proofs.chacha_poly.BufferedChaCha.tag_over.Goals as goal

pub returns : goal.returns
returns c =
    let m = c.args.self.now in
    let s : Setting = setting (record { suite = ChaCha20Poly1305; key = m.key.now }) m.nonce.now c.args.aad.now in
    let hash = rw (sym c.empty-authenticator.ensures.0) at (c.hash.ensures c.args.aad.now) in
    let none = c.begin.ensures.holds s refl c.requires.aad_fits hash in
    let fed = c.update.ensures.holds s [] none (omega (arith, c.requires.body_fits)) in
    c.hash_as_tag.ensures s c.args.body.now refl (c.digest.ensures.digest s c.args.body.now fed)
