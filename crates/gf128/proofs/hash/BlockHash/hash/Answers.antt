use Rattle.std.proofs.Common.{◌≡◌, ℕ, ◌*◌, ◌/◌, ◌%◌, ◌≤◌, List, length, arith}
use Rattle.std.proofs.lemmas.List.{take_all}
use Rattle.gf128.specs.Code.States.{SumHolds}
use Rattle.gf128.proofs.hash.BlockHash.hash.Goals as goal

whole : (m : List ℕ) → length m % 16 ≡ 0 → length m ≤ length m / 16 * 16
whole m none = omega (arith, none)

pub returns-clause-value : goal.returns-clause-value
returns-clause-value x c = λ h m held none.
    let sum : SumHolds x.O.HashOrder.order x.M.Multiply.key_bytes c.args.self.now.pieces.core h m =
    rw (take_all (length m / 16 * 16) m (whole m none)) at held.taken in
    c.hash_of.ensures.value h _ m sum.serves sum.sum_is
