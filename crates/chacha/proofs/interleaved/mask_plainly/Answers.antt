use Rattle.std.proofs.Common.{[]}
use Rattle.chacha.proofs.interleaved.mask_plainly.Goals as goal

pub returns-clause-hashed : goal.returns-clause-hashed
returns-clause-hashed g c = λ k m h.
    c.take_all.ensures k _ (g.met.W.BlockWork.grows c.args.hash.now [] _ k m h)
