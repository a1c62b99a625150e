use Rattle.std.proofs.Common.{ℕ, get_or, bit_xor}
use Rattle.std.proofs.lemmas.Nat.{xor_of_8}
use Rattle.aes.specs.Field.{times}
use Rattle.aes.specs.declared.planes.TheConstants.{BELOW, TWO_BELOW}
use Rattle.aes.proofs.planes.mix_columns.Goals as goal

pub returns : goal.returns
returns g c = λ f small h.
    let next = c.below-next.ensures f h in
    let both = c.add-both.ensures f (λ l k. f (get_or BELOW l 0) k) h next in
    let t = λ (l k : ℕ). bit_xor (f l k) (f (get_or BELOW l 0) k) in
    c.add-2.ensures (λ l k. bit_xor (f (get_or BELOW l 0) k) (t (get_or TWO_BELOW l 0) k)) (λ l k. times 2 (t l k))
    (c.add.ensures (λ l k. f (get_or BELOW l 0) k) (λ l k. t (get_or TWO_BELOW l 0) k) next
    (c.two_below.ensures t both))
    (c.double.ensures t (λ l k. xor_of_8 (f l k) (f (get_or BELOW l 0) k) (small l k) (small (get_or BELOW l 0) k)) both)
