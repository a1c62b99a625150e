use Rattle.std.proofs.Common.{[], arith, refl}
use Rattle.chacha.proofs.Applied.{applied}
use Rattle.chacha.proofs.stream.ChaStream.hash_and_apply.Goals as goal

pub returns-then-self-bytes-gt-END-clause-hashed : goal.returns-then-self-bytes-gt-END-clause-hashed
returns-then-self-bytes-gt-END-clause-hashed g c = λ k m h.
    c.take_all.ensures k _ (g.met.W.BlockWork.grows c.args.hash.now [] _ k m h)

pub returns-clause-did : goal.returns-clause-did
returns-clause-did g c =
    applied c.args.self.now _ c.args.bytes.now _ refl refl (omega (arith, c.hash_interleaved.auto.bytes))
    c.hash_interleaved.ensures.masked
