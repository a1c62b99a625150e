use Rattle.capi.proofs.Outcomes.{done}
use Rattle.capi.proofs.uses.key_kept.Goals as goal

pub returns : goal.returns
returns c = λ named is zero. done _ _ _ (c.aeadkit_key_init.ensures.known named is) zero
