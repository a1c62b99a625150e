use Rattle.aes.proofs.InverseLanes.{unshifted}
use Rattle.aes.proofs.inverse_lanes.unshift_rows.Goals as goal

pub returns : goal.returns
returns c = unshifted c.args.x c.fits-x.0
