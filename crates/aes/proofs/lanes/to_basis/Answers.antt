use Rattle.std.proofs.Common.{get_or}
use Rattle.aes.specs.declared.lanes.TheConstants.{TO_LOW, TO_HIGH}
use Rattle.aes.proofs.FourBlocks.{basis_entries, same_lanes}
use Rattle.aes.proofs.Substitution.{both_looked}
use Rattle.aes.proofs.lanes.to_basis.Goals as goal

pub look_up_both-requires : goal.look_up_both-requires
look_up_both-requires g c = c.nibbles-low.ensures.places

pub returns : goal.returns
returns g c =
    same_lanes _
    (both_looked TO_LOW TO_HIGH c.look_up_both.ensures c.nibbles-low.ensures.nibbles.0 c.nibbles-low.ensures.nibbles.1)
    (λ k l. basis_entries (get_or (g.V.Lanes.lanes c.args.x) k 0) (c.nibbles-low.ensures.bytes k))
