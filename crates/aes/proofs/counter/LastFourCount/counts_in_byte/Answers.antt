use Rattle.aes.proofs.Nibbles.{bytes_count_be}
use Rattle.aes.proofs.counter.LastFourCount.counts_in_byte.Goals as goal

pub returns : goal.returns
returns c = bytes_count_be
