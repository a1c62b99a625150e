use Rattle.aes.proofs.Loads.{first_halves, second_halves}
use Rattle.aes.proofs.planes.halves.Goals as goal

pub returns : goal.returns
returns c = λ f blocks ha hb hc hd. (
  first_halves c.args.a c.args.b c.args.c c.args.d c.fits-a.0 c.fits-b.0 c.fits-c.0 c.fits-d.0 c.fits-a.1 c.fits-b.1
      c.fits-c.1 c.fits-d.1 f blocks ha hb hc hd,
  second_halves c.args.a c.args.b c.args.c c.args.d c.fits-a.0 c.fits-b.0 c.fits-c.0 c.fits-d.0 c.fits-a.1 c.fits-b.1
      c.fits-c.1 c.fits-d.1 f blocks ha hb hc hd,
)
