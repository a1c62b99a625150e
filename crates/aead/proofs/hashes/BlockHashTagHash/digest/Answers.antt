use mathlib.Core.Logic.{∥∥₁_elim}
use Rattle.std.proofs.Props.{props}
use Rattle.std.proofs.Common.{◌≡◌, ◌%◌, ◌*◌, ◌<◌, ◌^◌, ℕ, List, ◌++◌, length, ap, ap₂, ◌∙◌, arith}
use Rattle.octets.specs.Bytes.{pad16}
use Rattle.gf128.specs.Orders.{hash_by, two_numbers}
use Rattle.gf128.proofs.Sums.{length-two_numbers}
use Rattle.aead.specs.Code.States.{block_key}
use Rattle.aead.proofs.Fed.{whole_ended}
use Rattle.aead.proofs.hashes.BlockHashTagHash.digest.Goals as goal

pub returns : goal.returns
returns g c = λ s m h fits is_aad is_bytes.
    let o = g.R.HashOrder.order in
    let k : List ℕ = block_key g.R.Count.MaskCount.by s in
    let fed : List ℕ = pad16 (pad16 s.aad ++ m) in
    let law = c.ends_in_lengths.ensures s m h.0 fits in
    let aad : c.args.aad_length < 2 ^ 61 = omega (arith, is_aad, law.0) in
    let bytes : c.args.bytes_length < 2 ^ 61 = omega (arith, is_bytes, law.1) in
    let ended : List ℕ = two_numbers o c.bits.result c.bits-2.result in
    let whole : length (fed ++ ended) % 16 ≡ 0 =
    whole_ended (pad16 s.aad ++ m) ended (length-two_numbers o c.bits.result c.bits-2.result) in
    ∥∥₁_elim h.1 (hlevel props) (λ held.
    c.hash.ensures.value k _ (c.pad16_and_add_two.ensures k (pad16 s.aad ++ m) held) whole
    ∙ ap₂ (λ x y. hash_by o k (fed ++ two_numbers o x y)) (c.bits.ensures aad ∙ ap (λ (n : ℕ). 8 * n) is_aad)
    (c.bits-2.ensures bytes ∙ ap (λ (n : ℕ). 8 * n) is_bytes)
    ∙ law.2)
