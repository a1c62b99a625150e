use Rattle.aes.proofs.FirstRounds.{counted_lane}
use Rattle.aes.proofs.first_round.counted.Goals as goal

pub returns-clause-each : goal.returns-clause-each
returns-clause-each c = λ l h. counted_lane c.args.first c.args.key c.args.k l h
