use Rattle.std.proofs.lemmas.Grind.{merely}
use Rattle.aead.specs.Sealing.{hash_key}
use Rattle.aead.proofs.gcm.NoncedGcmOnePass.hash.Goals as goal

pub returns : goal.returns
returns g c = λ aad.
    let m = c.args.self.now in
    (m.cipher.now.by_gcm, merely (c.with.ensures (hash_key m.cipher.now.key.now) m.cipher.now.multiplier_is))
