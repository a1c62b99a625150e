use Rattle.std.proofs.Common.{List, ℕ, ◌∙◌, ap, reverse, arith}
use Rattle.octets.specs.Bits.{g}
use Rattle.gf128.proofs.WordLemmas.{times_x_is}
use Rattle.gf128.proofs.polyval.reversed_mul_x.Goals as goal

pub returns-clause-value : goal.returns-clause-value
returns-clause-value c =
    times_x_is c.reversed_word_of-word.result c.times_x-times.result (reverse c.args.key.now)
    c.block_of.result (omega arith)
    (c.reversed_word_of-word.ensures ∙ ap (λ (b : List ℕ). g (reverse b)) c.bytes.ensures.value)
    c.times_x-times.ensures c.block_of.ensures.value
