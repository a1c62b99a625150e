use Rattle.std.proofs.Common.{length, replicate, sym}
use Rattle.aead.proofs.Measuring.{last_more}
use Rattle.aead.proofs.Passing.{masked_by_zeros}
use Rattle.aead.proofs.engine.measure.LastStage.take_in.Goals as goal

pub returns-clause-holds : goal.returns-clause-holds
returns-clause-holds c = λ m fed h. (
  last_more (replicate 16 0) fed c.args.piece.now _ _ h c.slide.ensures,
  sym (masked_by_zeros (length fed) c.args.piece.now),
)
