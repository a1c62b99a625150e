use Rattle.aead.proofs.KnownReadings.{write_known, write_stopped}
use Rattle.aead.proofs.engine.open.write_step.Goals as goal

pub returns-in-Ok-clause-known : goal.returns-in-Ok-clause-known
returns-in-Ok-clause-known g c = λ s b.
    let a = c.args.measured.now in
    write_known s _ _ _ _ _ _ _ _ _ _ _ _ a.tag_is.length_is a.low
    (c.in-Ok.ensures.passed s b.keys_are b.state_is) c.answer_write.ensures c.in-Ok.ensures.blame.0
    c.in-Ok.ensures.blame.1

pub returns-in-Err-clause-known : goal.returns-in-Err-clause-known
returns-in-Err-clause-known g c = λ s b.
    write_stopped s _ _ _ _ _ _ _ _ _ _ _ (c.in-Err.ensures.passed s b.keys_are b.state_is) c.in-Err.ensures.blame
