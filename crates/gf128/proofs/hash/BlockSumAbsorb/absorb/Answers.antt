use Rattle.gf128.proofs.SumsAfter.{absorbed}
use Rattle.gf128.proofs.hash.BlockSumAbsorb.absorb.Goals as goal

pub returns : goal.returns
returns g c = λ h m whole held. record {
  serves = held.serves;
  sum_is =
      absorbed g.O.HashOrder.order (g.M.Multiply.key_bytes c.args.self.now.multiplier) m c.args.blocks.now c.as_chunks.result.0.now
      c.args.self.now.sum c.times_all-self.result whole c.requires c.as_chunks.ensures.front c.as_chunks.ensures.front_len held.sum_is
      c.times_all-self.ensures;
}
