use Rattle.aead.proofs.pieces.opener.OpenWriter.finish.Goals as goal

pub returns-clause-answer : goal.returns-clause-answer
returns-clause-answer c = λ s tag first body h.
    c.end_pass.ensures.answer s tag first body (c.keys.ensures.keys s h.keys) h.bytes h.state
