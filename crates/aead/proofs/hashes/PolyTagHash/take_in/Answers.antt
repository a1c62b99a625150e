use Rattle.aead.proofs.hashes.PolyTagHash.take_in.Goals as goal

pub returns : goal.returns
returns c = λ s m h. (h.0, c.update.ensures _ m h.1)
