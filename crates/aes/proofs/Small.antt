-- Lists of bytes that are written out.
use Rattle.std.proofs.Common.{◌≡◌, ℕ, zero, suc, ◌<◌, true, ltb, List, [], ◌∷◌, get_or, arith, ltb-true}
use Rattle.std.specs.List.{list_all}
use Rattle.std.proofs.lemmas.Bool.{and_parts}

-- if all items of a list are tested to be below 256, they are
pub all_small : (s : List ℕ) → list_all (λ x. ltb x 256) s ≡ true → (i : ℕ) → get_or s i 0 < 256
all_small [] h i = omega arith
all_small (x ∷ s) h zero = ltb-true x 256 (and_parts (ltb x 256) (list_all (λ x. ltb x 256) s) h).0
all_small (x ∷ s) h (suc i) = all_small s (and_parts (ltb x 256) (list_all (λ x. ltb x 256) s) h).1 i
