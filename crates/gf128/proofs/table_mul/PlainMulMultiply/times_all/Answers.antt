use Rattle.gf128.proofs.table_mul.PlainMulMultiply.times_all.Goals as goal

pub returns-then-blocks-many : goal.returns-then-blocks-many
returns-then-blocks-many g c = c.times_few.ensures c.args.self.now.word c.args.self.now.filled

pub times_many-requires : goal.times_many-requires
times_many-requires g c = c.args.self.now.filled
