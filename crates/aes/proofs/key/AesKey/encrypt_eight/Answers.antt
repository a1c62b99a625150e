use Rattle.std.proofs.Common.{◌≡◌, ℕ, ◌+◌, ◌*◌, ◌/◌, ◌%◌, List, get_or, ap, ap₂, ◌∙◌, arith}
use Rattle.octets.specs.Bytes.{IsBlock}
use Rattle.aes.specs.Cipher.{IsKey, cipher, rounds}
use Rattle.aes.specs.Schedule.{schedule}
use Rattle.aes.specs.Code.Planes.{block_byte}
use Rattle.aes.proofs.FourRounds.{block_held}
use Rattle.aes.proofs.Permutation.{cipher_block}
use Rattle.aes.proofs.SixteenBlocks.{same_bytes}
use Rattle.aes.proofs.key.AesKey.encrypt_eight.Goals as goal

pub returns : goal.returns
returns c = λ f blocks held.
    let key = c.args.self.now in
    let k : IsKey key = c.encrypt_half.ensures.is_key in
    let again : ℕ → List ℕ = λ q. cipher key (f (q % 8)) in
    let made : (q : ℕ) → IsBlock (again q) = λ q. cipher_block key (f (q % 8)) k (blocks (q % 8)) in
    let byte : ℕ → ℕ → ℕ = λ l k. get_or (cipher key (f (l / 16 * 8 + k))) (l % 16) 0 in
    let both = same_bytes c.from_half.result (c.from_half.ensures byte
    (c.encrypt_half.ensures.value f blocks (c.lower-half.ensures (block_byte (λ q. rounds (schedule key) 0 (f q))) (c.add_first_key.ensures f held))))
    (λ l k hl hk.
    let block : l % 16 / 16 * 8 + k ≡ (l / 16 * 8 + k) % 8 = omega (arith, hl, hk) in
    let at : l % 16 % 16 ≡ l % 16 = omega arith in
    ap₂ (λ (q i : ℕ). get_or (cipher key (f q)) i 0) block at) in
    let out = c.store.ensures again made both in (
      λ q h.
          let at : q % 8 ≡ q = omega (arith, h) in
          block_held 4 c.store.result.0 again q out.0 h (made q).length_is ∙ ap (λ (i : ℕ). cipher key (f i)) at,
      λ q h.
          let at : (4 + q) % 8 ≡ 4 + q = omega (arith, h) in
          block_held 4 c.store.result.1 (λ q. again (4 + q)) q out.1 h (made (4 + q)).length_is
          ∙ ap (λ (i : ℕ). cipher key (f i)) at,
    )
