use Rattle.aead.proofs.pieces.opener.Opener.finish.Goals as goal

pub returns-in-Ok-clause-answer : goal.returns-in-Ok-clause-answer
returns-in-Ok-clause-answer c = λ s tag body h.
    let m = c.in-Ok.ensures.answer s tag body (c.keys.ensures.keys s h.keys) h.bytes h.state in
    (record { keys = h.keys; bytes = h.bytes; state = m.0; known = c.none.ensures _ }, m.1)

pub returns-in-Err-clause-answer : goal.returns-in-Err-clause-answer
returns-in-Err-clause-answer c = λ s tag body h.
    c.in-Err.ensures.answer s tag body (c.keys.ensures.keys s h.keys) h.bytes h.state
