use Rattle.std.proofs.Common.{◌∙◌, sym}
use Rattle.octets.proofs.Numbers.{le_word}
use Rattle.gf128.proofs.word_bytes.WordBytes.word.Goals as goal

pub returns : goal.returns
returns c = c.from_le_bytes.ensures ∙ sym (le_word c.args.self.bytes c.args.self.is_block.length_is)
