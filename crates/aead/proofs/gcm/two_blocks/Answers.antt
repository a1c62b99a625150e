use Rattle.std.proofs.Common.{List, ℕ, length, ap, sym, ◌∙◌}
use Rattle.aes.specs.Counters.{up_be}
use Rattle.aes.proofs.StreamSteps.{joined_pair}
use Rattle.aead.specs.Sealing.{j0}
use Rattle.aead.proofs.GcmStarts.{from_j0}
use Rattle.aead.proofs.gcm.two_blocks.Goals as goal

pub returns-clause-blocks : goal.returns-clause-blocks
returns-clause-blocks c =
    let nonce : List ℕ = c.args.nonce.now in
    let h = c.nonce_and_counter.ensures.nonce_length in
    joined_pair c.bytes.result.now c.bytes-2.result.now c.joined.result (up_be (j0 nonce))
    (ap length c.bytes.ensures.value ∙ c.bytes.ensures.are_bytes.length_is)
    (ap length c.bytes-2.ensures.value ∙ c.bytes-2.ensures.are_bytes.length_is)
    c.joined.ensures
    (c.bytes.ensures.value ∙ c.nonce_and_counter.ensures.value ∙ sym (from_j0 nonce 0 h))
    (c.bytes-2.ensures.value ∙ c.nonce_and_counter-2.ensures.value ∙ sym (from_j0 nonce 1 h))
