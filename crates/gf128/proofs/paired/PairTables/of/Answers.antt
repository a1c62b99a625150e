use Rattle.std.proofs.Common.{◌≡◌, ℕ, ◌<◌, ◌∙◌, List, length, sym, ap, ap₂, arith, ◌++◌}
use Rattle.std.proofs.lemmas.List.{length-set}
use Rattle.gf128.specs.Code.Words.{table_at}
use Rattle.gf128.proofs.PairedTables.{one_pair, first_are, second_are}
use Rattle.gf128.proofs.paired.PairTables.of.Goals as goal

pub tables-preserved : goal.tables-preserved
tables-preserved c =
    let j : ℕ = c.tables.j in
    let s = c.args.first.now in
    let t = c.args.second.now in
    let held = c.tables.invariant in
    let high = c.of-high_pair.ensures ∙ ap₂ (λ (x y : List ℕ). x ++ y) c.high_table.ensures c.high_table-in-tables.ensures in
    let low = c.of-low_pair.ensures ∙ ap₂ (λ (x y : List ℕ). x ++ y) c.low_table.ensures c.low_table-in-tables.ensures in
    let long_high : length (table_at s.high j) ≡ 16 = ap length (sym c.high_table.ensures) ∙ c.high_table.result.is_block.length_is in
    let long_low : length (table_at s.low j) ≡ 16 = ap length (sym c.low_table.ensures) ∙ c.low_table.result.is_block.length_is in (
      length-set c.tables.high j c.of-high_pair.result.bytes ∙ held.0,
      length-set c.tables.low j c.of-low_pair.result.bytes ∙ held.1,
      λ k l. (
        one_pair c.tables.high c.of-high_pair.result.bytes s.high t.high j k held.0 (omega (arith, c.tables-test.true)) l (λ h. (held.2 k h).0)
            (high, long_high),
        one_pair c.tables.low c.of-low_pair.result.bytes s.low t.low j k held.1 (omega (arith, c.tables-test.true)) l (λ h. (held.2 k h).1)
            (low, long_low),
      ),
    )

pub returns : goal.returns
returns c =
    let s = c.args.first.now in
    let t = c.args.second.now in
    let held = c.tables.invariant in
    let lh : length s.high ≡ 16 = omega arith in
    let ll : length s.low ≡ 16 = omega arith in
    let mh : length t.high ≡ 16 = omega arith in
    let ml : length t.low ≡ 16 = omega arith in
    let high = λ (k : ℕ) (l : k < 16). (held.2 k (omega (arith, l, c.tables-test.false))).0 in
    let low = λ (k : ℕ) (l : k < 16). (held.2 k (omega (arith, l, c.tables-test.false))).1 in
    record {
      first_high = first_are c.tables.high s.high t.high held.0 lh high;
      first_low = first_are c.tables.low s.low t.low held.1 ll low;
      second_high = second_are c.tables.high s.high t.high held.0 mh high;
      second_low = second_are c.tables.low s.low t.low held.1 ml low;
    }
