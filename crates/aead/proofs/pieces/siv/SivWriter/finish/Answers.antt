use Rattle.aead.proofs.pieces.siv.SivWriter.finish.Goals as goal

pub returns-clause-answer : goal.returns-clause-answer
returns-clause-answer c = λ s first text h.
    c.end_reading.ensures.answer s first text h.keys.derived.by (c.keys.ensures.keys s h.keys) h.state
