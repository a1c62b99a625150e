use Rattle.aes.proofs.CountedBlocks.{by_blocks_bit}
use Rattle.aes.proofs.counted_planes.block_bits.Goals as goal

pub returns-clause-bits : goal.returns-clause-bits
returns-clause-bits c = λ l k hl hk. by_blocks_bit c.args.number l k hl hk
