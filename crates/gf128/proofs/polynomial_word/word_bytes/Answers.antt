use Rattle.std.proofs.Common.{◌∙◌, ap, reverse, List, ℕ}
use Rattle.std.proofs.lemmas.List.{reverse-reverse}
use Rattle.octets.specs.Bytes.{IsBlock, le}
use Rattle.octets.specs.Bits.{g}
use Rattle.octets.proofs.Numbers.{le_word}
use Rattle.gf128.specs.Code.Words.{of_word}
use Rattle.gf128.proofs.LaneWords.{picked_reversed}
use Rattle.gf128.proofs.WordLemmas.{of_word-le, reverse_block}
use Rattle.gf128.proofs.polynomial_word.word_bytes.Goals as goal

pub returns : goal.returns
returns c =
    let w = c.of_bytes-word.result in
    let r : List ℕ = reverse w.bytes in
    let is : IsBlock r = reverse_block w.bytes w.is_block in
    ap (λ (b : List ℕ). of_word (le b)) (picked_reversed w.bytes w.is_block) ∙ ap of_word (le_word r is.length_is)
    ∙ of_word-le r is ∙ ap g (reverse-reverse w.bytes ∙ c.of_bytes-word.ensures)
