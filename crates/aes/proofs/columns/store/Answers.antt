use Rattle.std.proofs.Common.{◌≡◌, length, get_or, ap, ◌∙◌, rules}
use Rattle.aes.specs.Code.Columns.{state_of}
use Rattle.aes.proofs.Steps.{quad}
use Rattle.aes.proofs.ColumnWords.{column_rows, joined}
use Rattle.aes.proofs.columns.store.Goals as goal

pub returns : goal.returns
returns c =
    let t = c.args.state in
    let long : length t ≡ 4 = search rules in
    joined
    (column_rows (get_or t 0 0) c.to_le_bytes-a.result c.to_le_bytes-a.ensures)
    (column_rows (get_or t 1 0) c.to_le_bytes-b.result c.to_le_bytes-b.ensures)
    (column_rows (get_or t 2 0) c.to_le_bytes-c.result c.to_le_bytes-c.ensures)
    (column_rows (get_or t 3 0) c.to_le_bytes-d.result c.to_le_bytes-d.ensures)
    ∙ ap state_of (quad t long)
