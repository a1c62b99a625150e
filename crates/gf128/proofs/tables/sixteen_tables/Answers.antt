use Rattle.std.proofs.Common.{ℕ, List, ◌+◌, ◌*◌, ◌∙◌, get_or, refl, arith}
use Rattle.std.proofs.lemmas.List.{length-set}
use Rattle.octets.specs.Bytes.{le}
use Rattle.gf128.specs.Code.Words.{mixed}
use Rattle.gf128.proofs.LookUps.{mixed_lane, one_table, sixteen_entries}
use Rattle.gf128.proofs.tables.sixteen_tables.Goals as goal

pub places-preserved : goal.places-preserved
places-preserved c =
    let g : ℕ = c.groups.group in
    let t : ℕ = c.places.place in
    let x : List ℕ = c.args.once.bytes in
    let x1 : List ℕ = c.times_power-by_x.result.bytes in
    let x2 : List ℕ = c.times_power-by_x2.result.bytes in
    let x3 : List ℕ = c.times_power-by_x3.result.bytes in (
      length-set c.places.tables (4 * g + t) c.table_of.result ∙ c.places.invariant.0,
      λ k n lk ln.
          one_table c.places.tables c.table_of.result (4 * g + t) k n (λ j. mixed n (get_or x j 0) (get_or x1 j 0) (get_or x2 j 0) (get_or x3 j 0))
          c.places.invariant.0 (omega (arith, c.groups-test.true, c.places-test.true)) (omega (arith, lk))
          (λ h. c.places.invariant.1 k n h ln)
          (mixed_lane x x1 x2 x3 c.pair_sums-high.result c.pair_sums-low.result c.table_of.result g t n c.pair_sums-high.ensures
          c.pair_sums-low.ensures c.places-test.true ln (c.table_of.ensures n ln)),
    )

pub returns : goal.returns
returns c = λ n l.
    let x = c.args.once in
    let x1 = c.times_power-by_x.result in
    let x2 = c.times_power-by_x2.result in
    let x3 = c.times_power-by_x3.result in
    sixteen_entries c.groups.tables x.bytes x1.bytes x2.bytes x3.bytes (le x.bytes) (le x1.bytes) (le x2.bytes) (le x3.bytes) n
    x.is_block x1.is_block x2.is_block x3.is_block refl refl refl refl l
    (λ j s. c.groups.invariant.1 j n (omega (arith, s, c.groups-test.false)) l) c.times_power-by_x.ensures
    c.times_power-by_x2.ensures c.times_power-by_x3.ensures
