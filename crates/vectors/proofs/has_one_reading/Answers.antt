use Rattle.vectors.proofs.Progress.{one_reading}
use Rattle.vectors.proofs.has_one_reading.Goals as goal

pub returns : goal.returns
returns c = one_reading
