use Rattle.capi.proofs.Outcomes.{done}
use Rattle.capi.proofs.uses.opener_begun.Goals as goal

pub returns : goal.returns
returns c = λ suite key keeps zero. done _ _ _ (c.aeadkit_opener_init_with.ensures.keeps suite key keeps) zero
