use Rattle.gf128.proofs.wide_mul.times_many.Goals as goal

pub returns : goal.returns
returns g c = rw c.set_multiples.ensures at c.times_all.ensures
