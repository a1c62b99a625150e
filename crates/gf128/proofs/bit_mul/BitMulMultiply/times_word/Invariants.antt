use Rattle.std.proofs.Common.{◌<◌, ◌^◌}
use Rattle.gf128.proofs.WordLemmas.{IsSoFar}
use Rattle.gf128.proofs.bit_mul.BitMulMultiply.times_word.Given as goal

abbrev pub invariant-bits : goal.invariant-bits
invariant-bits l = (l.product < 2 ^ 128) × IsSoFar l.x l.self.key l.i l.product
