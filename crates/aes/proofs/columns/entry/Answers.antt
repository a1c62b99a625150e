use Rattle.aes.proofs.ColumnWords.{table_at}
use Rattle.aes.proofs.columns.entry.Goals as goal

pub returns : goal.returns
returns c = table_at c.args.x c.ranges.x.fits
