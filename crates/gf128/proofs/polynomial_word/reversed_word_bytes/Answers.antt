use Rattle.std.proofs.Common.{◌∙◌, ap, reverse, List, ℕ}
use Rattle.octets.specs.Bits.{g}
use Rattle.octets.proofs.Numbers.{le_word}
use Rattle.gf128.specs.Code.Words.{of_word}
use Rattle.gf128.proofs.WordLemmas.{of_word-le}
use Rattle.gf128.proofs.polynomial_word.reversed_word_bytes.Goals as goal

pub returns : goal.returns
returns c =
    let w = c.of_bytes-word.result in
    ap of_word (le_word w.bytes w.is_block.length_is) ∙ of_word-le w.bytes w.is_block
    ∙ ap (λ (b : List ℕ). g (reverse b)) c.of_bytes-word.ensures
