use Rattle.aead.proofs.Repeats.{repeats}
use Rattle.aead.proofs.shown_repeats_the_text.Goals as goal

pub returns : goal.returns
returns c = repeats
