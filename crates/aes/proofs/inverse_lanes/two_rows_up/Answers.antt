use Rattle.aes.proofs.InverseLanes.{up_sixteen}
use Rattle.aes.proofs.inverse_lanes.two_rows_up.Goals as goal

pub returns : goal.returns
returns c = up_sixteen c.args.x c.fits-x.0 c.fits-x.1
