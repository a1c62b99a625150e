use Rattle.gf128.proofs.table_mul.TableMulMultiply.times_all.Goals as goal

pub returns : goal.returns
returns g c = rw c.lent.ensures at c.times_all.ensures
