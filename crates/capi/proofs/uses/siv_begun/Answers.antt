use Rattle.capi.proofs.Outcomes.{done}
use Rattle.capi.proofs.uses.siv_begun.Goals as goal

pub returns : goal.returns
returns c = λ suite key keeps two zero. done _ _ _ (c.aeadkit_siv_init_with.ensures.keeps suite key keeps two) zero
