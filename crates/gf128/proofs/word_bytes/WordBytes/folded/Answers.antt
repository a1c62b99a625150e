use Rattle.std.proofs.Common.{◌∙◌, ap, ap₂, bit_xor}
use Rattle.octets.specs.Bytes.{le}
use Rattle.gf128.proofs.word_bytes.WordBytes.folded.Goals as goal

pub returns : goal.returns
returns c =
    c.xor.ensures ∙ ap (bit_xor (le c.args.self.bytes)) (c.xor-three.ensures ∙ ap₂ bit_xor c.shifted_down-by_x.ensures
    (c.xor-two.ensures ∙ ap₂ bit_xor c.shifted_down-by_x2.ensures c.shifted_down-by_x7.ensures))
