use Rattle.std.proofs.Common.{◌≡◌, ℕ, ◌+◌, ◌<◌, List, ◌++◌, length, take, ap, ap₂, ◌∙◌, arith}
use Rattle.std.proofs.lemmas.List.{length-append}
use Rattle.std.specs.Int.{w32, to_le_bytes}
use Rattle.octets.specs.Bytes.{block_at}
use Rattle.aes.specs.Cipher.{cipher}
use Rattle.aes.proofs.StreamSteps.{joined_pair}
use Rattle.aead.specs.Sealing.{key_part}
use Rattle.aead.proofs.derived_keys.last_parts.Goals as goal

pub returns : goal.returns
unfolding key_part
returns c =
    let nonce : List ℕ = c.args.nonce.now in
    let f : ℕ → List ℕ = λ q. to_le_bytes w32 (4 + q) ++ nonce in
    let long : (q : ℕ) → length (f q) ≡ 16 =
    λ q. length-append (to_le_bytes w32 (4 + q)) nonce ∙ ap (λ n. 4 + n) c.bytes-bytes.ensures.are_bytes.length_is in
    let first : c.numbered.result ≡ f 0 =
    c.numbered.ensures ∙ ap (λ n. to_le_bytes w32 4 ++ n) c.bytes-bytes.ensures.value in
    let second : c.numbered-2.result ≡ f 1 =
    c.numbered-2.ensures ∙ ap (λ n. to_le_bytes w32 5 ++ n) c.bytes-bytes.ensures.value in
    let ciphers : (q : ℕ) → q < 2 → block_at c.encrypt_two-blocks.result q ≡ cipher c.args.key.now (f q) =
    λ q l. c.encrypt_two-blocks.ensures q l
    ∙ ap (cipher c.args.key.now)
    (joined_pair c.numbered.result c.numbered-2.result c.joined.result f (ap length first ∙ long 0)
    (ap length second ∙ long 1) c.joined.ensures first second q l) in
    c.joined-2.ensures
    ∙ ap₂ (λ a b. a ++ b) (c.first_half.ensures ∙ ap (take 8) (ciphers 0 (omega arith)))
    (c.first_half-2.ensures ∙ ap (take 8) (ciphers 1 (omega arith)))
