use Rattle.gf128.proofs.word_bytes.WordBytesLanes.zero.Goals as goal

pub returns : goal.returns
returns c = c.of.ensures
