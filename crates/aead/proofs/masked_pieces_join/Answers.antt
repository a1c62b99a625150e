use Rattle.aead.proofs.Joined.{under_one_tag}
use Rattle.aead.proofs.masked_pieces_join.Goals as goal

pub returns : goal.returns
returns c = under_one_tag
