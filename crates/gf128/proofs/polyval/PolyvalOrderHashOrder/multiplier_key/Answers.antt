use Rattle.gf128.proofs.polyval.PolyvalOrderHashOrder.multiplier_key.Goals as goal

pub returns : goal.returns
returns c = (c.reversed_mul_x.ensures.of_block, c.reversed_mul_x.ensures.value)
