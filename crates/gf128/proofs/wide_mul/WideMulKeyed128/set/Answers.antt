use Rattle.std.proofs.Common.{◌∙◌, ap}
use Rattle.std.specs.Int.{w128, to_be_bytes}
use Rattle.gf128.proofs.wide_mul.WideMulKeyed128.set.Goals as goal

pub set_multiples-requires : goal.set_multiples-requires
set_multiples-requires c = c.of-first.result.filled

pub returns : goal.returns
returns c = ap (to_be_bytes w128) c.set_multiples.ensures ∙ c.of-first.ensures
