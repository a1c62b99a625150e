use Rattle.std.proofs.Common.{◌≡◌, ℕ, ◌%◌, ap, ◌∙◌, arith}
use Rattle.octets.specs.Bytes.{IsBlock, block_at}
use Rattle.aes.specs.Cipher.{cipher}
use Rattle.aes.proofs.Permutation.{cipher_block}
use Rattle.aes.proofs.FourRounds.{holds_self, block_at_is, block_held}
use Rattle.aes.proofs.key.AesKey.encrypt_two.Goals as goal

pub returns : goal.returns
returns c = λ q h.
    let key = c.args.self.now in
    let m = c.args.blocks.now in
    let same : q % 2 ≡ q = omega (arith, h) in
    let block : (q : ℕ) → IsBlock (block_at m (q % 2)) = λ q.
    block_at_is 2 (q % 2) m c.told-blocks c.fits-blocks (omega arith) in
    block_held 2 c.encrypt_lanes.result (λ q. cipher key (block_at m (q % 2))) q
    (c.encrypt_lanes.ensures.value (λ q. block_at m (q % 2)) block
    (holds_self 2 (λ q. q % 2) m c.told-blocks (λ q l. omega (arith, l)))) h
    (cipher_block key (block_at m (q % 2)) c.encrypt_lanes.ensures.is_key (block q)).length_is
    ∙ ap (λ (i : ℕ). cipher key (block_at m i)) same
