use Rattle.std.proofs.Common.{ℕ, ◌+◌}
use Rattle.octets.specs.Bytes.{IsBlock}
use Rattle.aes.specs.Cipher.{IsKey, cipher}
use Rattle.aes.proofs.FourRounds.{block_held}
use Rattle.aes.proofs.Permutation.{cipher_block}
use Rattle.aes.proofs.key.AesKey.encrypt_sixteen.Goals as goal

pub returns : goal.returns
returns c = λ f blocks held.
    let key = c.args.self.now in
    let k : IsKey key = c.encrypt_planes.ensures.is_key in
    let made : (q : ℕ) → IsBlock (cipher key (f q)) = λ q. cipher_block key (f q) k (blocks q) in
    let out = c.store.ensures (λ q. cipher key (f q)) made (c.encrypt_planes.ensures.value f blocks held) in (
      λ q h. block_held 4 c.store.result.0 (λ q. cipher key (f q)) q out.0 h (made q).length_is,
      λ q h. block_held 4 c.store.result.1 (λ q. cipher key (f (4 + q))) q out.1 h (made (4 + q)).length_is,
      λ q h. block_held 4 c.store.result.2 (λ q. cipher key (f (8 + q))) q out.2 h (made (8 + q)).length_is,
      λ q h. block_held 4 c.store.result.3 (λ q. cipher key (f (12 + q))) q out.3 h (made (12 + q)).length_is,
    )
