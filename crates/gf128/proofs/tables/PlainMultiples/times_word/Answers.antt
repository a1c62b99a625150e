use Rattle.gf128.proofs.tables.PlainMultiples.times_word.Goals as goal

pub returns : goal.returns
returns c = λ h all. rw (c.word.ensures, ← c.of-word.ensures) (c.times_bytes.ensures h all)
