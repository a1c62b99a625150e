use Rattle.aes.specs.Code.Lanes.{both_at, first_at, second_at, u_at, t_at}
use Rattle.aes.proofs.FourBlocks.{shown, both_place, first_place, second_place, u_place, t_place}
use Rattle.aes.proofs.Substitution.{sum_is, has_nibbles, first_is, second_is, u_is, t_is}
use Rattle.aes.proofs.lanes.inverse.Goals as goal

pub look_up-scaled-requires : goal.look_up-scaled-requires
look_up-scaled-requires g c = λ k l. (c.nibbles-low.ensures.places k l).0

pub look_up-requires : goal.look_up-requires
look_up-requires g c = λ k l. (c.nibbles-low.ensures.places k l).1

pub look_up-requires-2 : goal.look_up-requires-2
look_up-requires-2 g c =
    let x = g.V.Lanes.lanes c.args.x in
    shown both_at _ x c.nibbles-low.ensures.bytes
    (sum_is x c.nibbles-low.ensures.nibbles.0 c.nibbles-low.ensures.nibbles.1 c.sum-both.ensures) both_place

pub look_up-requires-3 : goal.look_up-requires-3
look_up-requires-3 g c =
    let nibbles = has_nibbles c.nibbles-low.ensures.nibbles.0 c.nibbles-low.ensures.nibbles.1 c.sum-both.ensures
    c.look_up-scaled.ensures in
    let first = first_is nibbles c.look_up.ensures c.sum-first.ensures in
    shown first_at _ (g.V.Lanes.lanes c.args.x) c.nibbles-low.ensures.bytes first first_place

pub look_up-requires-4 : goal.look_up-requires-4
look_up-requires-4 g c =
    let nibbles = has_nibbles c.nibbles-low.ensures.nibbles.0 c.nibbles-low.ensures.nibbles.1 c.sum-both.ensures
    c.look_up-scaled.ensures in
    let second = second_is nibbles c.look_up-2.ensures c.sum-second.ensures in
    shown second_at _ (g.V.Lanes.lanes c.args.x) c.nibbles-low.ensures.bytes second second_place

pub returns-clause-nibbles : goal.returns-clause-nibbles
returns-clause-nibbles g c =
    let nibbles = has_nibbles c.nibbles-low.ensures.nibbles.0 c.nibbles-low.ensures.nibbles.1 c.sum-both.ensures
    c.look_up-scaled.ensures in
    let first = first_is nibbles c.look_up.ensures c.sum-first.ensures in
    let second = second_is nibbles c.look_up-2.ensures c.sum-second.ensures in (
      u_is nibbles first c.look_up-3.ensures c.sum-u.ensures,
      t_is nibbles second c.look_up-4.ensures c.sum-t.ensures,
    )

pub returns-clause-places : goal.returns-clause-places
returns-clause-places g c = λ k l.
    let x = g.V.Lanes.lanes c.args.x in
    let fits = c.nibbles-low.ensures.bytes in
    let nibbles = has_nibbles c.nibbles-low.ensures.nibbles.0 c.nibbles-low.ensures.nibbles.1 c.sum-both.ensures
    c.look_up-scaled.ensures in
    let first = first_is nibbles c.look_up.ensures c.sum-first.ensures in
    let second = second_is nibbles c.look_up-2.ensures c.sum-second.ensures in (
      shown u_at _ x fits (u_is nibbles first c.look_up-3.ensures c.sum-u.ensures) u_place k l,
      shown t_at _ x fits (t_is nibbles second c.look_up-4.ensures c.sum-t.ensures) t_place k l,
    )
