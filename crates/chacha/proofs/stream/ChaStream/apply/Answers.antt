use Rattle.std.proofs.Common.{arith, refl}
use Rattle.chacha.proofs.Applied.{applied}
use Rattle.chacha.proofs.stream.ChaStream.apply.Goals as goal

pub returns : goal.returns
returns c = λ key nonce first made held.
    applied c.args.self.now _ c.args.bytes.now _ refl refl (omega (arith, c.xor_stream.auto.bytes))
    c.xor_stream.ensures.masked key nonce first made held (omega (arith, held.offset_is, c.if-bytes-self.false))

pub returns-then-bytes-self : goal.returns-then-bytes-self
returns-then-bytes-self c = λ key nonce first made held. record {
  fault_is = refl;
  missing = (
    omega (arith, held.offset_is, c.if-bytes-self.true),
    λ there. omega (arith, there, held.offset_is, c.if-bytes-self.true),
  );
  past_end = omega (arith, held.offset_is, c.if-bytes-self.true);
  stream_unchanged = refl;
  bytes_unchanged = refl;
}
