use Rattle.aead.proofs.pieces.sealer.Sealer.finish.Goals as goal

pub returns : goal.returns
returns c = λ s text h. c.tag_of_text.ensures s text h.keys h.one_pass h.state
