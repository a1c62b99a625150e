use Rattle.std.proofs.Common.{◌/◌, ◌%◌, bit_xor, ap, ◌∙◌, ℕ}
use Rattle.aes.specs.Code.Lanes.{entry}
use Rattle.aes.specs.declared.lanes.TheConstants.{FROM_LOW, FROM_HIGH}
use Rattle.aes.proofs.FourBlocks.{back_entries, same_lanes}
use Rattle.aes.proofs.Substitution.{both_looked}
use Rattle.aes.proofs.lanes.from_basis.Goals as goal

pub look_up_both-requires : goal.look_up_both-requires
look_up_both-requires g c = c.nibbles-low.ensures.places

pub returns : goal.returns
returns g c = λ s small held.
    same_lanes _
    (both_looked FROM_LOW FROM_HIGH c.look_up_both.ensures c.nibbles-low.ensures.nibbles.0 c.nibbles-low.ensures.nibbles.1)
    (λ k l. ap (λ (y : ℕ). bit_xor (entry FROM_LOW (y % 16)) (entry FROM_HIGH (y / 16))) (held.each k l)
    ∙ back_entries (s k) (small k l))
