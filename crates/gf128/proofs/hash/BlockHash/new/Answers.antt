use Rattle.gf128.proofs.hash.BlockHash.new.Goals as goal

pub returns : goal.returns
returns x c = c.with.ensures c.args.key.now (rw c.of.ensures c.multiplier_key.ensures)
