use Rattle.std.proofs.Common.{◌∙◌, ap, refl, get_or, length, subst, ◌<◌}
use Rattle.chacha.proofs.Masking.{run_of_stream}
use Rattle.chacha.proofs.stream.xor_blocks.Goals as goal

pub returns-clause-masked : goal.returns-clause-masked
returns-clause-masked g c =
    let is = c.blocks-2.ensures.value in
    run_of_stream c.args.key.now c.args.nonce.now c.args.offset (length c.blocks-2.result.now) c.xor_part.result
    c.args.bytes.now c.blocks-2.result.now _ refl
    (λ i l. ap (λ s. get_or s i 0) is ∙ c.set_from.ensures.stream i (subst (λ s. i < length s) is l))
    c.xor_part.ensures.count c.xor_part.ensures.xored
