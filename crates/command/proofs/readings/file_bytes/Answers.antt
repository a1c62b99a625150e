use Rattle.std.proofs.Common.{inl, inr}
use Rattle.command.proofs.readings.file_bytes.Goals as goal

pub returns : goal.returns
returns g c = elim c.in-Err.ensures [ inl x ↦ inl (x.0, inr x.1) | inr x ↦ inr x ]
