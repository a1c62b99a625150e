use Rattle.aes.proofs.KeyPlanes.{written_back}
use Rattle.aes.proofs.key_planes.number_of.Goals as goal

pub returns : goal.returns
returns c = written_back c.args.lanes c.from_le_bytes.result c.fits-lanes.0 c.fits-lanes.1 c.from_le_bytes.ensures
