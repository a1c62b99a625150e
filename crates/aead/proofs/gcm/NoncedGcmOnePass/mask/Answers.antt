use Rattle.std.proofs.Common.{◌≡◌, ℕ, List, subst, sym, ◌∙◌}
use Rattle.aes.specs.Counters.{up_be}
use Rattle.aes.specs.Code.Streams.{Holds}
use Rattle.aead.specs.Sealing.{j0}
use Rattle.aead.proofs.Streams.{first_block}
use Rattle.aead.proofs.gcm.NoncedGcmOnePass.mask.Goals as goal

pub returns : goal.returns
returns g c = λ aad tag.
    let m = c.args.self.now in
    let P : List ℕ → Type 0 = λ b. Holds up_be c.new.result m.cipher.now.key.now b 0 in
    let first : c.nonce_and_counter.result ≡ up_be (j0 m.nonce.now) 1 =
    c.nonce_and_counter.ensures.value ∙ sym (first_block m.nonce.now c.nonce_and_counter.ensures.nonce_length) in
    (m.cipher.now.by_gcm, subst P first c.new.ensures)
