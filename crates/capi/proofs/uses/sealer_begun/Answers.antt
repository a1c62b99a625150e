use Rattle.capi.proofs.Outcomes.{done}
use Rattle.capi.proofs.uses.sealer_begun.Goals as goal

pub returns : goal.returns
returns c = λ suite key keeps one zero. done _ _ _ (c.aeadkit_sealer_init_with.ensures.keeps suite key keeps one) zero
