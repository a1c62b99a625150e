use Rattle.std.proofs.Common.{arith}
use Rattle.octets.proofs.Xors.{is_xor}
use Rattle.octets.proofs.compare.xor_each.Goals as goal

pub returns : goal.returns
returns c =
    is_xor c.bytes.dst c.args.dst.now c.args.src.now c.bytes.invariant.length_is c.requires
    (λ i l. c.bytes.invariant.done i (omega arith))
