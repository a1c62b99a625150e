use Rattle.aes.proofs.CountedBlocks.{number_planes}
use Rattle.aes.proofs.counted_planes.numbers.Goals as goal

pub returns : goal.returns
returns c =
    number_planes c.block_bits.result c.block_bits-2.result c.block_bits-3.result c.block_bits-4.result
    c.lanes_of-lanes.result c.args.first c.args.place c.block_bits.ensures.long c.block_bits-2.ensures.long
    c.block_bits-3.ensures.long c.block_bits-4.ensures.long c.lanes_of-lanes.ensures.long c.requires.0
    c.block_bits.ensures.bits c.block_bits-2.ensures.bits c.block_bits-3.ensures.bits c.block_bits-4.ensures.bits
    c.lanes_of-lanes.ensures.each
