use Rattle.aes.proofs.InverseLanes.{down_sixteen}
use Rattle.aes.proofs.inverse_lanes.two_rows_down.Goals as goal

pub returns : goal.returns
returns c = down_sixteen c.args.x c.fits-x.0 c.fits-x.1
