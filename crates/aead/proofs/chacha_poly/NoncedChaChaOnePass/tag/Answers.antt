use Rattle.std.proofs.Common.{refl}
use Rattle.aead.specs.Ciphers.{setting}
use Rattle.aead.specs.declared.suite.Suite.TheVariants.{ChaCha20Poly1305}
use Rattle.aead.proofs.chacha_poly.NoncedChaChaOnePass.tag.Goals as goal

pub returns : goal.returns
returns c = λ aad m digest.
    let n = c.args.self.now in
    c.hash_as_tag.ensures (setting (record { suite = ChaCha20Poly1305; key = n.key.now }) n.nonce.now aad) m refl digest
