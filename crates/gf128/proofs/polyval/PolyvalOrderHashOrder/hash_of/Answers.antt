use Rattle.gf128.specs.Code.Words.{of_word}
use Rattle.gf128.proofs.ByGhash.{polyval_by_sum}
use Rattle.gf128.proofs.WordLemmas.{length-of_word}
use Rattle.gf128.proofs.polyval.PolyvalOrderHashOrder.hash_of.Goals as goal

pub returns-clause-value : goal.returns-clause-value
returns-clause-value c = λ h k m serves is.
    polyval_by_sum h k m (of_word c.args.sum) c.reversed_block_of.result serves.0 serves.1
    (length-of_word c.args.sum) is c.reversed_block_of.ensures.is_block c.reversed_block_of.ensures.value
