use Rattle.std.proofs.Common.{◌≡◌, ℕ, ◌+◌, ◌%◌, ◌^◌, ◌∙◌, ap, arith}
use Rattle.chacha.specs.Block.{initial_state, block}
use Rattle.chacha.proofs.lanes.four_blocks.Goals as goal

pub returns-clause-blocks : goal.returns-clause-blocks
returns-clause-blocks g c = λ key nonce n has below j l.
    let now : (n + j) % 2 ^ 32 ≡ n + j = omega (arith, below, l) in
    c.next_blocks.ensures.blocks j l key nonce ((n + j) % 2 ^ 32) (has j l) ∙ ap (λ (m : ℕ). block key m nonce) now

pub returns-clause-next : goal.returns-clause-next
returns-clause-next g c = λ key nonce n has j l.
    let next : ((n + j) % 2 ^ 32 + 4) % 2 ^ 32 ≡ (n + 4 + j) % 2 ^ 32 = omega arith in
    c.next_blocks.ensures.counts j l key nonce ((n + j) % 2 ^ 32) (has j l)
    ∙ ap (λ (m : ℕ). initial_state key m nonce) next
