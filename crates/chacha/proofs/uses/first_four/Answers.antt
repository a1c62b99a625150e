use Rattle.std.proofs.Common.{arith}
use Rattle.chacha.proofs.uses.first_four.Goals as goal

pub four_blocks-requires : goal.four_blocks-requires
four_blocks-requires c =
    (c.args.key.now, (c.args.nonce.now, (0, (omega arith, c.set_four_starts.ensures))))
