use Rattle.aead.proofs.pieces.siv.SivAbsorb.finish.Goals as goal

pub returns : goal.returns
returns c = λ s text h.
    let m = c.begin_second_reading-tag.ensures s text h.keys.derived.by (c.keys.ensures.keys s h.keys) h.state in
    (m.0, record { keys = h.keys; state = m.1; known = c.none.ensures _ })
