-- Tables of sixteen bytes, two side by side.
use Rattle.std.proofs.Common.{◌≡◌, ℕ, ◌+◌, ◌<◌, List, [], ◌++◌, length, take, drop, set, inl, inr, sym, ap, ◌∙◌, arith, subst}
use Rattle.std.proofs.lemmas.Bool.{cases_lt}
use Rattle.std.proofs.lemmas.List.{ext_get_or, length-map, get_or-set_same, get_or-set_other, take-append-le, drop-append-le}
use Rattle.std.proofs.lemmas.List.{take_all, drop_all, get_or-map}
use Rattle.gf128.specs.Code.Words.{table_at, first_tables, second_tables}

-- table k of z is those of s and t side by side
abbrev pub IsBeside : List (List ℕ) → List (List ℕ) → List (List ℕ) → ℕ → Type 0
IsBeside z s t k = (table_at z k ≡ table_at s k ++ table_at t k) × (length (table_at s k) ≡ 16)

-- a table is written after the first j
pub one_pair : (z : List (List ℕ)) (r : List ℕ) (s t : List (List ℕ)) (j k : ℕ) → length z ≡ 16 → j < 16 → k < j + 1
    → (k < j → IsBeside z s t k) → (r ≡ table_at s j ++ table_at t j) × (length (table_at s j) ≡ 16) → IsBeside (set z j r) s t k
one_pair z r s t j k long l lk before here = elim (cases_lt k j) [
  | inl h ↦ (get_or-set_other z j k r [] (λ e. absurd (omega (arith, e, h))) ∙ (before h).0, (before h).1)
  | inr h ↦
      let same : j ≡ k = omega arith in
      subst (λ (i : ℕ). IsBeside (set z j r) s t i) same (get_or-set_same z j r [] (omega arith) ∙ here.0, here.1)
]

-- the first halves of such tables
pub first_are : (z s t : List (List ℕ)) → length z ≡ 16 → length s ≡ 16 → ((k : ℕ) → k < 16 → IsBeside z s t k) → first_tables z ≡ s
first_are z s t lz ls is =
    ext_get_or [] (first_tables z) s (length-map z (take 16) ∙ lz ∙ sym ls) (λ k l.
    let small : k < 16 = omega (arith, l, length-map z (take 16), lz) in
    let p = is k small in
    get_or-map (take 16) z k [] [] (omega arith) ∙ ap (take 16) p.0
    ∙ take-append-le 16 (table_at s k) (table_at t k) (omega (arith, p.1)) ∙ take_all 16 (table_at s k) (omega (arith, p.1)))

-- and the second halves
pub second_are : (z s t : List (List ℕ)) → length z ≡ 16 → length t ≡ 16 → ((k : ℕ) → k < 16 → IsBeside z s t k) → second_tables z ≡ t
second_are z s t lz lt is =
    ext_get_or [] (second_tables z) t (length-map z (drop 16) ∙ lz ∙ sym lt) (λ k l.
    let small : k < 16 = omega (arith, l, length-map z (drop 16), lz) in
    let p = is k small in
    get_or-map (drop 16) z k [] [] (omega arith) ∙ ap (drop 16) p.0
    ∙ drop-append-le 16 (table_at s k) (table_at t k) (omega (arith, p.1))
    ∙ ap (λ (x : List ℕ). x ++ table_at t k) (drop_all 16 (table_at s k) (omega (arith, p.1))))

-- a half of the table at an index below 16
pub first_at : (z : List (List ℕ)) (j : ℕ) → j < length z → table_at (first_tables z) j ≡ take 16 (table_at z j)
first_at z j l = get_or-map (take 16) z j [] [] l

pub second_at : (z : List (List ℕ)) (j : ℕ) → j < length z → table_at (second_tables z) j ≡ drop 16 (table_at z j)
second_at z j l = get_or-map (drop 16) z j [] [] l
