use Rattle.std.proofs.Common.{rules}
use Rattle.octets.proofs.fault.outcome_number.Goals as goal

pub returns-in-Err-TagMismatch : goal.returns-in-Err-TagMismatch
returns-in-Err-TagMismatch c = search rules
