-- Tests at every number below a bound.
use Rattle.std.proofs.Common.{◌≡◌, ℕ, zero, suc, ◌<◌, Bool, true, ◌&&◌, inl, inr, ap, ◌∙◌, arith}
use Rattle.std.proofs.lemmas.Bool.{and_parts, cases_eq}

-- whether every number below n passes the test
abbrev pub all_below : (ℕ → Bool) → ℕ → Bool
all_below t zero = true
all_below t (suc n) = t n && all_below t n

-- if a test is passed below n, it is passed at each number below n
pub all_below_at : (t : ℕ → Bool) (n k : ℕ) → all_below t n ≡ true → k < n → t k ≡ true
all_below_at t zero k h l = absurd (omega arith)
all_below_at t (suc n) k h l =
    elim (cases_eq k n) [
      | inl e ↦ ap t e ∙ (and_parts (t n) (all_below t n) h).0
      | inr e ↦ all_below_at t n k (and_parts (t n) (all_below t n) h).1 (omega arith)
    ]

-- a predicate that holds of 0 to 7 holds of each number below 8
pub eight_cases : (P : ℕ → Type 0) → P 0 → P 1 → P 2 → P 3 → P 4 → P 5 → P 6 → P 7 → (j : ℕ) → j < 8 → P j
eight_cases P a b c d e f g h zero l = a
eight_cases P a b c d e f g h (suc zero) l = b
eight_cases P a b c d e f g h (suc (suc zero)) l = c
eight_cases P a b c d e f g h (suc (suc (suc zero))) l = d
eight_cases P a b c d e f g h (suc (suc (suc (suc zero)))) l = e
eight_cases P a b c d e f g h (suc (suc (suc (suc (suc zero))))) l = f
eight_cases P a b c d e f g h (suc (suc (suc (suc (suc (suc zero)))))) l = g
eight_cases P a b c d e f g h (suc (suc (suc (suc (suc (suc (suc zero))))))) l = h
eight_cases P a b c d e f g h (suc (suc (suc (suc (suc (suc (suc (suc j)))))))) l = absurd (omega arith)
