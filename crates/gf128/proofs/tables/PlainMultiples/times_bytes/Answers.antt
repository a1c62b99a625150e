use Rattle.std.proofs.Common.{List, ℕ, ap, sym, subst}
use Rattle.std.specs.Int.{w128, to_be_bytes}
use Rattle.octets.specs.Bytes.{le}
use Rattle.gf128.specs.Code.Words.{IsWordProduct}
use Rattle.gf128.proofs.Entries.{looked_product}
use Rattle.gf128.proofs.tables.PlainMultiples.times_bytes.Goals as goal

pub returns : goal.returns
returns c = λ h tables.
    let s = c.args.self.now in
    let x = c.of-at.result.word in
    subst (λ (v : List ℕ). IsWordProduct (le v) (to_be_bytes w128 h) (le c.placed_sum.result.bytes)) (ap (λ w. w.bytes) c.of-at.ensures)
    (subst (IsWordProduct (le x.bytes) (to_be_bytes w128 h)) (sym c.placed_sum.ensures)
    (looked_product h s.high s.low x.bytes x.is_block tables))
