use Rattle.std.proofs.Common.{arith}
use Rattle.aead.proofs.pieces.pass_state.PassState.low.Goals as goal

pub returns : goal.returns
returns c = omega (arith, c.from.ensures, c.from-2.ensures)
