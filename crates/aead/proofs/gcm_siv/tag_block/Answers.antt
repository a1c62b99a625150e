use Rattle.std.proofs.Common.{◌++◌, drop, ap}
use Rattle.std.specs.Prelude.{bit_and}
use Rattle.aead.specs.Sealing.{tag_block, last_byte_by}
use Rattle.aead.proofs.gcm_siv.tag_block.Goals as goal

pub returns : goal.returns
unfolding tag_block last_byte_by
returns c = ap (λ d. last_byte_by (λ x. bit_and x 0x7f) (d ++ drop 12 c.args.hash.now)) c.xor_into.ensures
