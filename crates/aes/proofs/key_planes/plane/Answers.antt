use Rattle.aes.proofs.KeyPlanes.{full_long, plane_bits}
use Rattle.aes.proofs.key_planes.plane.Goals as goal

pub returns : goal.returns
returns c = record {
  long = full_long c.args.key c.args.j c.fits-key.0;
  bits = λ l k hl hk. plane_bits c.args.key c.args.j c.fits-key.0 l k hl hk;
}
