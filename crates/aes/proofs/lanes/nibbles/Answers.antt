use Rattle.std.proofs.Common.{◌/◌, ◌%◌}
use Rattle.aes.proofs.FourBlocks.{shown, low_place, high_place}
use Rattle.aes.proofs.lanes.nibbles.Goals as goal

pub returns-clause-nibbles : goal.returns-clause-nibbles
returns-clause-nibbles g c = (c.low_nibbles.ensures.nibbles, c.high_nibbles.ensures)

pub returns-clause-places : goal.returns-clause-places
returns-clause-places g c = λ k l.
    let x = g.V.Lanes.lanes c.args.x in
    let fits = c.low_nibbles.ensures.bytes in (
      shown (λ y. y % 16) _ x fits c.low_nibbles.ensures.nibbles low_place k l,
      shown (λ y. y / 16) _ x fits c.high_nibbles.ensures high_place k l,
    )

pub returns-clause-bytes : goal.returns-clause-bytes
returns-clause-bytes g c = c.low_nibbles.ensures.bytes
