use Rattle.aes.proofs.Nibbles.{bytes_count_le}
use Rattle.aes.proofs.counter.FirstFourCount.counts_in_byte.Goals as goal

pub returns : goal.returns
returns c = bytes_count_le
