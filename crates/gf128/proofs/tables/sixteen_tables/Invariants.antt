use Rattle.std.proofs.Common.{◌≡◌, ℕ, ◌+◌, ◌*◌, ◌<◌, length, get_or, slice_index}
use Rattle.gf128.specs.Code.Words.{mixed, table_at}
use Rattle.gf128.proofs.tables.sixteen_tables.Given as goal

abbrev pub invariant-groups : goal.invariant-groups
invariant-groups l = (length l.tables ≡ 16) × ((k n : ℕ) → k < 4 * l.group → n < 16
    → get_or (table_at l.tables k) n 0
    ≡ mixed n (slice_index l.once.bytes k) (slice_index l.by_x.bytes k) (slice_index l.by_x2.bytes k) (slice_index l.by_x3.bytes k))

abbrev pub invariant-places : goal.invariant-places
invariant-places l = (length l.tables ≡ 16) × ((k n : ℕ) → k < 4 * l.group + l.place → n < 16
    → get_or (table_at l.tables k) n 0
    ≡ mixed n (slice_index l.once.bytes k) (slice_index l.by_x.bytes k) (slice_index l.by_x2.bytes k) (slice_index l.by_x3.bytes k))
