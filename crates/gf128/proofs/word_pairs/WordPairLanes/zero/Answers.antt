use Rattle.std.proofs.Common.{◌∙◌, ap, ap₂, bit_xor, refl}
use Rattle.octets.specs.Bytes.{le}
use Rattle.gf128.proofs.WordPairs.{joined_words}
use Rattle.gf128.proofs.word_pairs.WordPairLanes.zero.Goals as goal

pub returns : goal.returns
returns c =
    let x = c.of.result in
    let y = c.of-2.result in
    let halves = joined_words x.bytes y.bytes c.of-3.result.bytes c.of-3.ensures x.is_block y.is_block in
    ap₂ bit_xor (ap le halves.0 ∙ c.of.ensures) (ap le halves.1 ∙ c.of-2.ensures) ∙ refl
