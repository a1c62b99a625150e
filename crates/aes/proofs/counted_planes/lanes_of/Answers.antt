use Rattle.aes.proofs.CountedBlocks.{lanes_at}
use Rattle.aes.proofs.counted_planes.lanes_of.Goals as goal

pub returns-clause-each : goal.returns-clause-each
returns-clause-each c = λ l h. lanes_at c.args.place l c.requires h
