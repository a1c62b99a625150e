use Rattle.capi.proofs.Outcomes.{done}
use Rattle.capi.proofs.uses.opened_in_place_with.Goals as goal

pub returns : goal.returns
returns c = λ suite key keeps zero. (done _ _ _ (c.aeadkit_open_in_place_with.ensures.keeps suite key keeps) zero).1
