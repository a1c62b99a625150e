use Rattle.capi.proofs.Outcomes.{done}
use Rattle.capi.proofs.uses.opened_in_place.Goals as goal

pub returns : goal.returns
returns c = λ named is zero. (done _ _ _ (c.aeadkit_open_in_place.ensures.known named is) zero).1
