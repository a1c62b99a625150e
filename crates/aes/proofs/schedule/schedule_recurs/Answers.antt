use Rattle.aes.proofs.Words.{meets_recurrence}
use Rattle.aes.proofs.schedule.schedule_recurs.Goals as goal

pub returns : goal.returns
returns c = meets_recurrence
