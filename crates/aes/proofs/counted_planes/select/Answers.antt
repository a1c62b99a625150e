use Rattle.aes.proofs.CountedBlocks.{marked_planes}
use Rattle.aes.proofs.counted_planes.select.Goals as goal

pub returns : goal.returns
returns c = λ g h. marked_planes c.args.p c.args.mask g c.requires h
