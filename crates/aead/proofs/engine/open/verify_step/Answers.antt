use Rattle.aead.proofs.KnownReadings.{verify_known}
use Rattle.aead.proofs.engine.open.verify_step.Goals as goal

pub returns-in-Ok-clause-known : goal.returns-in-Ok-clause-known
returns-in-Ok-clause-known g c = λ s b.
    let a = c.args.measured.now in
    verify_known s _ _ _ _ _ _ _ _ _ _ a.tag_is.length_is a.low
    (c.in-Ok.ensures.passed s b) c.answer_verify.ensures c.in-Ok.ensures.blame
