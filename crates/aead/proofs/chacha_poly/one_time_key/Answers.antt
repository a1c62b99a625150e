use Rattle.std.proofs.Common.{ap, take, ◌∙◌}
use Rattle.aead.specs.Sealing.{poly_key}
use Rattle.aead.proofs.chacha_poly.one_time_key.Goals as goal

pub returns : goal.returns
unfolding poly_key
returns c = c.first_32.ensures ∙ ap (take 32) c.block.ensures.value
