use Rattle.aes.proofs.Nibbles.{counts_le}
use Rattle.aes.proofs.counter.FirstFourCount.counts_in_nibble.Goals as goal

pub returns : goal.returns
returns c = counts_le
