use Rattle.gf128.proofs.paired.times_pairs.Goals as goal

pub returns : goal.returns
returns c =
    rw (c.of-ab.ensures.first, c.of-ab.ensures.second, c.of-cd.ensures.first, c.of-cd.ensures.second) at c.placed_sum.ensures
