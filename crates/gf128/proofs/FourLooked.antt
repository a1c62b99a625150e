-- Four products by look-ups, each in the tables of its own power of the key.
use Rattle.std.proofs.Common.{ℕ, List, sym, subst}
use Rattle.std.specs.Int.{w128, to_be_bytes}
use Rattle.octets.specs.Bytes.{IsBlock, le}
use Rattle.octets.specs.Polynomial.{power}
use Rattle.gf128.specs.Code.Words.{of_word, placed, looked_word, looked_four, folded_wide, AreTables}
use Rattle.gf128.specs.Code.Words.{IsReduced, IsFourProducts}
use Rattle.gf128.proofs.Entries.{looked_product}
use Rattle.gf128.proofs.Powers.{four_placed, four_powers}

-- what the look-ups by four words give, moved to their places and reduced, is the sum of four products
pub four_looked : (h s t u : ℕ) (high1 low1 high2 low2 high3 low3 high4 low4 : List (List ℕ)) (a b c d : List ℕ)
    → IsBlock a → IsBlock b → IsBlock c → IsBlock d
    → IsReduced (power (of_word h) 2) s → IsReduced (power (of_word h) 3) t → IsReduced (power (of_word h) 4) u
    → AreTables h high1 low1 → AreTables s high2 low2 → AreTables t high3 low3 → AreTables u high4 low4
    → IsFourProducts (le a) (le b) (le c) (le d) (to_be_bytes w128 h) (folded_wide (placed (looked_four (looked_word high4 low4 a)
    (looked_word high3 low3 b) (looked_word high2 low2 c) (looked_word high1 low1 d)) 16))
four_looked h s t u high1 low1 high2 low2 high3 low3 high4 low4 a b c d ha hb hc hd second third fourth t1 t2 t3 t4 =
    let p : ℕ → ℕ = looked_word high4 low4 a in
    let q : ℕ → ℕ = looked_word high3 low3 b in
    let r : ℕ → ℕ = looked_word high2 low2 c in
    let v : ℕ → ℕ = looked_word high1 low1 d in
    let product : (ℕ → ℕ) → ℕ = λ (f : ℕ → ℕ). folded_wide (placed f 16) in
    subst (IsFourProducts (le a) (le b) (le c) (le d) (to_be_bytes w128 h)) (sym (four_placed p q r v))
    (four_powers (le a) (le b) (le c) (le d) h s t u (product p) (product q) (product r) (product v) second third fourth
    (looked_product u high4 low4 a ha t4)
    (looked_product t high3 low3 b hb t3)
    (looked_product s high2 low2 c hc t2)
    (looked_product h high1 low1 d hd t1))
