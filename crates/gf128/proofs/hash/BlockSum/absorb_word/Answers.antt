use Rattle.gf128.proofs.SumsAfter.{one_more}
use Rattle.gf128.proofs.hash.BlockSum.absorb_word.Goals as goal

pub returns : goal.returns
returns g c = λ h m block whole long word held. record {
  serves = held.serves;
  sum_is =
      one_more g.O.HashOrder.order (g.M.Multiply.key_bytes c.args.self.now.multiplier) m block c.args.self.now.sum c.args.word
      c.times_word-self.result whole long word held.sum_is c.times_word-self.ensures;
}
