use Rattle.capi.proofs.Outcomes.{done}
use Rattle.capi.proofs.uses.sealed_in_place_with.Goals as goal

pub returns : goal.returns
returns c = λ suite key keeps zero. (done _ _ _ (c.aeadkit_seal_in_place_with.ensures.keeps suite key keeps) zero).1
