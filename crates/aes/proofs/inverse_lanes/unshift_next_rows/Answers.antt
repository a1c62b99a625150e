use Rattle.aes.proofs.InverseLanes.{unshifted_next}
use Rattle.aes.proofs.inverse_lanes.unshift_next_rows.Goals as goal

pub returns : goal.returns
returns c = unshifted_next c.args.x c.fits-x.0
