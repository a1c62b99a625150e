use Rattle.std.proofs.Common.{ℕ, ◌/◌, ◌%◌, arith, subst}
use Rattle.octets.specs.Bytes.{le}
use Rattle.gf128.specs.Code.Words.{of_word, entry, AreMultiples}
use Rattle.gf128.proofs.BitParts.{joined, product_low}
use Rattle.gf128.proofs.tables.PlainMultiples.of.Goals as goal

pub returns : goal.returns
returns c =
    let h : ℕ = le c.of-once.result.bytes in
    let m : ℕ = le c.times_power-by_x4.result.bytes in
    let high : ℕ → ℕ = entry c.sixteen_tables.result in
    let low : ℕ → ℕ = entry c.sixteen_tables-2.result in
    subst (λ (w : ℕ). AreMultiples (of_word w) high low) c.of-once.ensures (λ n l.
    joined 4 4 n h m (high (n / 16)) (low (n % 16)) c.times_power-by_x4.ensures
    (c.sixteen_tables.ensures (n / 16) (omega (arith, l)))
    (product_low 4 (n / 16) (n % 16) n m (low (n % 16)) (omega arith)
    (c.sixteen_tables-2.ensures (n % 16) (omega arith))))
