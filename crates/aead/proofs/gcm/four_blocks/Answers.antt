use Rattle.std.proofs.Common.{List, ℕ, ◌++◌, length, ap, ap₂, sym, ◌∙◌}
use Rattle.std.proofs.lemmas.List.{append_assoc}
use Rattle.aes.specs.Counters.{up_be}
use Rattle.aes.proofs.StreamSteps.{joined_blocks}
use Rattle.aead.specs.Sealing.{j0}
use Rattle.aead.proofs.GcmStarts.{from_j0}
use Rattle.aead.proofs.gcm.four_blocks.Goals as goal

pub returns-clause-blocks : goal.returns-clause-blocks
returns-clause-blocks c =
    let nonce : List ℕ = c.args.nonce.now in
    let h = c.nonce_and_counter.ensures.nonce_length in
    joined_blocks c.bytes.result.now c.bytes-2.result.now c.bytes-3.result.now c.bytes-4.result.now c.joined.result
    (up_be (j0 nonce))
    (ap length c.bytes.ensures.value ∙ c.bytes.ensures.are_bytes.length_is)
    (ap length c.bytes-2.ensures.value ∙ c.bytes-2.ensures.are_bytes.length_is)
    (ap length c.bytes-3.ensures.value ∙ c.bytes-3.ensures.are_bytes.length_is)
    (ap length c.bytes-4.ensures.value ∙ c.bytes-4.ensures.are_bytes.length_is)
    (c.joined.ensures ∙ ap₂ (λ x y. x ++ y) c.joined-front.ensures c.joined-back.ensures
    ∙ append_assoc c.bytes.result.now c.bytes-2.result.now (c.bytes-3.result.now ++ c.bytes-4.result.now))
    (c.bytes.ensures.value ∙ c.nonce_and_counter.ensures.value ∙ sym (from_j0 nonce 0 h))
    (c.bytes-2.ensures.value ∙ c.nonce_and_counter-2.ensures.value ∙ sym (from_j0 nonce 1 h))
    (c.bytes-3.ensures.value ∙ c.nonce_and_counter-3.ensures.value ∙ sym (from_j0 nonce 2 h))
    (c.bytes-4.ensures.value ∙ c.nonce_and_counter-4.ensures.value ∙ sym (from_j0 nonce 3 h))
