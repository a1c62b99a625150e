use Rattle.aes.proofs.Nibbles.{counts_be}
use Rattle.aes.proofs.counter.LastFourCount.counts_in_nibble.Goals as goal

pub returns : goal.returns
returns c = counts_be
