use Rattle.std.proofs.Common.{◌≡◌, ℕ, ◌++◌, List, ◌+◌, ◌/◌, ◌%◌, length}
use Rattle.poly1305.specs.Poly1305.{prime, block_sum, r_of}
use Rattle.poly1305.specs.Code.Residue.{pair}
use Rattle.poly1305.specs.Code.States.{PolySumHolds}
use Rattle.poly1305.proofs.poly.PolySum.absorb_blocks.Given as goal

abbrev pub invariant-taken : goal.invariant-taken
invariant-taken g l = (k m : List ℕ) → length m % 16 ≡ 0 → PolySumHolds g.M.Multiplier.factor l.self k m
    → pair l.sum.low l.sum.high % prime ≡ block_sum (r_of k) (m ++ l.blocks)
    (length m / 16 + l.block-index) % prime
