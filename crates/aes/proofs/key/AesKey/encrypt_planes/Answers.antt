use Rattle.std.proofs.Common.{◌≡◌, ℕ, List, ◌+◌, ◌*◌, ◌/◌, ◌%◌, get_or, ap₂, arith}
use Rattle.aes.specs.Cipher.{cipher, rounds}
use Rattle.aes.specs.Schedule.{schedule}
use Rattle.aes.specs.Code.Planes.{block_byte}
use Rattle.aes.proofs.SixteenBlocks.{same_bytes, second_block}
use Rattle.aes.proofs.key.AesKey.encrypt_planes.Goals as goal

pub returns-then-wide-clause-value : goal.returns-then-wide-clause-value
returns-then-wide-clause-value c = λ f blocks held. c.encrypt_whole.ensures.value f blocks held

pub returns-clause-value : goal.returns-clause-value
returns-clause-value c = λ f blocks held.
    let key = c.args.self.now in
    let state : ℕ → List ℕ = λ q. rounds (schedule key) c.args.from (f q) in
    let byte : ℕ → ℕ → ℕ = λ l k. get_or (cipher key (f (l / 16 * 8 + k))) (l % 16) 0 in
    c.both_halves.ensures byte
    (c.encrypt_half.ensures.value f blocks (c.lower-first.ensures (block_byte state) held))
    (same_bytes c.encrypt_half-2.new.planes
    (c.encrypt_half-2.ensures.value (λ q. f (8 + q)) (λ q. blocks (8 + q))
    (same_bytes c.upper-second.result (c.upper-second.ensures (block_byte state) held) (λ l k hl hk. second_block state l k hl)))
    (λ l k hl hk.
    let block : 8 + (l / 16 * 8 + k) ≡ (16 + l) / 16 * 8 + k = omega (arith, hl) in
    let at : l % 16 ≡ (16 + l) % 16 = omega (arith, hl) in
    ap₂ (λ (q i : ℕ). get_or (cipher key (f q)) i 0) block at))
