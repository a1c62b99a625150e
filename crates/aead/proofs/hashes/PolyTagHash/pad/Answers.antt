use Rattle.aead.proofs.hashes.PolyTagHash.pad.Goals as goal

pub returns : goal.returns
returns c = λ s m h. (h.0, c.pad16.ensures _ m h.1)
