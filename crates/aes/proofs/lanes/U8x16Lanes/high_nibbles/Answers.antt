use Rattle.std.proofs.Common.{ℕ, ◌/◌, ◌^◌}
use Rattle.aes.proofs.FourBlocks.{lanes-splat}
use Rattle.aes.proofs.lanes.U8x16Lanes.high_nibbles.Goals as goal

pub returns : goal.returns
returns c = lanes-splat 16 (λ (a b : ℕ). a / 2 ^ b) c.args.self 4 c.fits-self.0
