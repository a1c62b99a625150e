use Rattle.std.proofs.Common.{rules}
use Rattle.vectors.specs.Code.Steps.{field_at}
use Rattle.vectors.proofs.place.field_at.Goals as goal

pub returns-then-byte_count-length : goal.returns-then-byte_count-length
unfolding field_at
returns-then-byte_count-length c = search rules
