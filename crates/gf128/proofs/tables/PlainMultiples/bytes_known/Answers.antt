use Rattle.std.proofs.Common.{◌≡◌, ℕ, ◌<◌, ◌≤◌, List, [], length, get_or, inl, inr, subst, ap, arith}
use Rattle.std.proofs.lemmas.Bool.{cases_lt}
use Rattle.std.proofs.lemmas.List.{get_or_past}
use Rattle.gf128.specs.Code.Words.{table_at}
use Rattle.gf128.proofs.tables.PlainMultiples.bytes_known.Goals as goal

-- past its last table, a list of tables has the empty table
past : (t : List (List ℕ)) (j n : ℕ) → length t ≡ 16 → 16 ≤ j → get_or (table_at t j) n 0 < 256
past t j n long l =
    let none : table_at t j ≡ [] = get_or_past t j [] (omega arith) in
    let zero : get_or (table_at t j) n 0 ≡ 0 = ap (λ (x : List ℕ). get_or x n 0) none in
    omega arith

pub tables-preserved : goal.tables-preserved
tables-preserved c = λ k n l. elim (cases_lt k c.tables.j) [
  | inl h ↦ c.tables.invariant k n h
  | inr h ↦
      let same : c.tables.j ≡ k = omega arith in
      let s = c.args.self.now in
      subst (λ (i : ℕ). (get_or (table_at s.high i) n 0 < 256) × (get_or (table_at s.low i) n 0 < 256)) same
      (c.entries_known.ensures n, c.entries_known-in-tables.ensures n)
]

pub returns-clause-high : goal.returns-clause-high
returns-clause-high c = λ j n.
    let long : length c.args.self.now.high ≡ 16 = omega arith in
    elim (cases_lt j 16) [
      | inl l ↦ (c.tables.invariant j n (omega (arith, l, c.tables-test.false))).0
      | inr l ↦ past c.args.self.now.high j n long l
    ]

pub returns-clause-low : goal.returns-clause-low
returns-clause-low c = λ j n.
    let long : length c.args.self.now.low ≡ 16 = omega arith in
    elim (cases_lt j 16) [
      | inl l ↦ (c.tables.invariant j n (omega (arith, l, c.tables-test.false))).1
      | inr l ↦ past c.args.self.now.low j n long l
    ]
