use Rattle.aead.proofs.Joined.{joined_under}
use Rattle.aead.proofs.masked_pieces_make_a_sealing.Goals as goal

pub returns : goal.returns
returns c = joined_under
