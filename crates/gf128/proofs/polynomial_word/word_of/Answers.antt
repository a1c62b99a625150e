use Rattle.std.proofs.Common.{◌∙◌, ap}
use Rattle.gf128.specs.Code.Words.{of_word}
use Rattle.gf128.proofs.WordLemmas.{of_word-be}
use Rattle.gf128.proofs.polynomial_word.word_of.Goals as goal

pub returns : goal.returns
returns c = ap of_word c.from_be_bytes.ensures ∙ of_word-be c.args.block.now
    (record { length_is = c.told-block; bytes = c.fits-block })
