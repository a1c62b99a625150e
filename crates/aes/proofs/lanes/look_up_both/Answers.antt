use Rattle.std.proofs.Common.{get_or, bit_xor}
use Rattle.aes.specs.Code.Lanes.{entry}
use Rattle.aes.proofs.FourBlocks.{via_two}
use Rattle.aes.proofs.lanes.look_up_both.Goals as goal

pub look_up-requires : goal.look_up-requires
look_up-requires g c = λ k l. (c.requires k l).0

pub look_up-requires-2 : goal.look_up-requires-2
look_up-requires-2 g c = λ k l. (c.requires k l).1

pub returns : goal.returns
returns g c =
    let u = g.V.Lanes.lanes c.args.u in
    let t = g.V.Lanes.lanes c.args.t in
    via_two bit_xor (λ k. entry c.args.first (get_or u k 0)) (λ k. entry c.args.second (get_or t k 0)) _ _ _ c.sum.ensures
    c.look_up.ensures c.look_up-2.ensures
