use Rattle.std.proofs.Common.{◌+◌, ◌≤◌, ap, arith, length, sym}
use Rattle.aead.specs.Suites.{text_limit, text_limit_by}
use Rattle.aead.proofs.Passing.{masked_by_zeros}
use Rattle.aead.proofs.engine.stage.ReadingStage.take_in.Goals as goal

pub returns-clause-holds : goal.returns-clause-holds
returns-clause-holds c = λ s fed h.
    let fits : c.args.self.now.state.length + length c.args.piece.now ≤ text_limit s.suite =
    omega (arith, c.requires, ap text_limit_by h.keys_are.by) in (
      record { keys_are = h.keys_are; taken = c.take.ensures.takes s fed h.keys_are fits h.taken },
      sym (masked_by_zeros (length fed) c.args.piece.now),
    )
