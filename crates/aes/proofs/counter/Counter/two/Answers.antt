use Rattle.std.proofs.Common.{ℕ, List, ◌+◌, ◌%◌, ◌^◌, length, sym, ap, ◌∙◌, add-zero}
use Rattle.aes.proofs.StreamSteps.{joined_pair}
use Rattle.aes.proofs.counter.Counter.two.Goals as goal

pub returns : goal.returns
returns g c =
    let first = c.args.self.now.first in
    let begun = c.args.self.now.block_count in
    let up : List ℕ → ℕ → List ℕ = g.C.Count.up in
    joined_pair c.bytes.result.now c.bytes-2.result.now c.concat_two.result (λ q. up first ((begun + q) % 2 ^ 32))
    (ap length c.bytes.ensures.value ∙ c.bytes.ensures.are_bytes.length_is)
    (ap length c.bytes-2.ensures.value ∙ c.bytes-2.ensures.are_bytes.length_is)
    c.concat_two.ensures
    (c.bytes.ensures.value ∙ c.block-first.ensures.value ∙ ap (up first) (sym (add-zero begun))
    ∙ sym (g.met.C.Count.wraps first (begun + 0)))
    (c.bytes-2.ensures.value ∙ c.block-second.ensures.value)
