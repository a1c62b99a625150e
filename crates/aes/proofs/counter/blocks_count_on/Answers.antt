use Rattle.aes.proofs.Counting.{up_be_counts_on, up_le_counts_on}
use Rattle.aes.proofs.counter.blocks_count_on.Goals as goal

pub returns-clause-big_endian : goal.returns-clause-big_endian
returns-clause-big_endian c = up_be_counts_on

pub returns-clause-little_endian : goal.returns-clause-little_endian
returns-clause-little_endian c = up_le_counts_on
