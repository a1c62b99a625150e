use Rattle.gf128.proofs.table_mul.TableMulMultiply.times_word.Goals as goal

pub returns : goal.returns
returns c = rw c.lent.ensures at c.times_word.ensures
