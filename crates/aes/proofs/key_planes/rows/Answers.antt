use Rattle.aes.proofs.KeyPlanes.{rows_lane}
use Rattle.aes.proofs.key_planes.rows.Goals as goal

pub returns : goal.returns
returns c = λ l h. rows_lane c.args.key l c.fits-key.0 h
