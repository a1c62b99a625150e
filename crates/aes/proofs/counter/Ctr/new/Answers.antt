use Rattle.std.proofs.Common.{refl}
use Rattle.aes.proofs.counter.Ctr.new.Goals as goal

pub returns : goal.returns
returns g c = record { key_is = refl; makes = c.new.ensures c.args.key.now }
