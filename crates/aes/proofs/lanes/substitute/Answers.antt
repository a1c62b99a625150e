use Rattle.aes.specs.declared.lanes.TheConstants.{PLAIN_BY_FIRST, PLAIN_BY_SECOND}
use Rattle.aes.specs.declared.lanes.TheConstants.{ONCE_BY_FIRST, ONCE_BY_SECOND, TWICE_BY_FIRST}
use Rattle.aes.specs.declared.lanes.TheConstants.{TWICE_BY_SECOND}
use Rattle.aes.proofs.FourBlocks.{plain_lanes, once_lanes, twice_lanes}
use Rattle.aes.proofs.Substitution.{both_looked}
use Rattle.aes.proofs.lanes.substitute.Goals as goal

pub look_up_both-requires : goal.look_up_both-requires
look_up_both-requires g c = c.inverse-u.ensures.places

pub look_up_both-requires-2 : goal.look_up_both-requires-2
look_up_both-requires-2 g c = c.inverse-u.ensures.places

pub look_up_both-requires-3 : goal.look_up_both-requires-3
look_up_both-requires-3 g c = c.inverse-u.ensures.places

pub returns : goal.returns
returns g c =
    let x = g.V.Lanes.lanes c.args.x in
    let u = c.inverse-u.ensures.nibbles.0 in
    let t = c.inverse-u.ensures.nibbles.1 in
    λ s small held. (
      plain_lanes _ x s (both_looked PLAIN_BY_FIRST PLAIN_BY_SECOND c.look_up_both.ensures u t) small held,
      once_lanes _ x s (both_looked ONCE_BY_FIRST ONCE_BY_SECOND c.look_up_both-2.ensures u t) small held,
      twice_lanes _ x s (both_looked TWICE_BY_FIRST TWICE_BY_SECOND c.look_up_both-3.ensures u t) small held,
    )
