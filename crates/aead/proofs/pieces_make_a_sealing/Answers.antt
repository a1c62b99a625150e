use Rattle.aead.proofs.Joined.{joined}
use Rattle.aead.proofs.pieces_make_a_sealing.Goals as goal

pub returns : goal.returns
returns c = joined
