-- The end of a text whose first blocks were taken in.
use Rattle.std.proofs.Common.{◌≡◌, ℕ, ◌-◌, List, length, drop, sym, ap, arith}
use Rattle.octets.specs.Ends.{IsEnd}

-- if no block was taken in, all bytes are left
pub all_left : (xs : List ℕ) → IsEnd xs xs
all_left xs =
    let none : length xs - length xs ≡ 0 = omega arith in
    record { shorter = omega arith; whole = omega arith; rest_is = ap (λ (n : ℕ). drop n xs) (sym none) }
