use Rattle.std.proofs.Common.{refl}
use Rattle.aead.specs.Sealing.{counter_block, last_byte_by}
use Rattle.aead.proofs.gcm_siv.counter_block.Goals as goal

pub returns : goal.returns
unfolding counter_block last_byte_by
returns c = refl
