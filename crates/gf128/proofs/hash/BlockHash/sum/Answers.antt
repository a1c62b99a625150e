use Rattle.std.proofs.Common.{◌∙◌, ◌/◌, ◌*◌, List, ℕ, length, take, ap}
use Rattle.gf128.proofs.Sums.{block_sum_serves}
use Rattle.gf128.proofs.hash.BlockHash.sum.Goals as goal

pub returns : goal.returns
returns g c = λ h m held k serves i.
    let whole : List ℕ = take (length m / 16 * 16) m in
    let sum = held.taken in
    sum.sum_is i
    ∙ ap (λ f. f i) (block_sum_serves g.O.HashOrder.order h (g.M.Multiply.key_bytes c.args.self.now.pieces.core.multiplier)
    k whole (length whole / 16) sum.serves serves)
