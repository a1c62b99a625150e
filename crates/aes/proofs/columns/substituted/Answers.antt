use Rattle.std.proofs.Common.{List, ℕ, get_or, ap, ◌∙◌}
use Rattle.aes.proofs.ColumnWords.{column_row}
use Rattle.aes.proofs.columns.substituted.Goals as goal

pub returns : goal.returns
returns c = column_row c.entry.result 1 c.to_le_bytes.result c.to_le_bytes.ensures
    ∙ ap (λ (v : List ℕ). get_or v 1 0) c.entry.ensures
