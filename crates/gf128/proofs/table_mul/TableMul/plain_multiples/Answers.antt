use Rattle.gf128.proofs.WordLemmas.{g-to_be}
use Rattle.gf128.proofs.table_mul.TableMul.plain_multiples.Goals as goal

pub returns : goal.returns
returns c = rw (g-to_be c.args.self.now.word) c.args.self.now.filled.filled
