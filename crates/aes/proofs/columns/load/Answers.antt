use Rattle.std.proofs.Common.{ℕ, get_or, ◌<◌, ◌∙◌}
use Rattle.aes.proofs.Steps.{sixteen}
use Rattle.aes.proofs.ColumnWords.{column_back, joined}
use Rattle.aes.proofs.columns.load.Goals as goal

pub returns : goal.returns
returns c =
    let s = c.args.block.now in
    let small : (i : ℕ) → get_or s i 0 < 256 = c.fits-block in
    joined
    (column_back (get_or s 0 0) (get_or s 1 0) (get_or s 2 0) (get_or s 3 0) c.from_le_bytes.result (small 0)
    (small 1) (small 2) (small 3) c.from_le_bytes.ensures)
    (column_back (get_or s 4 0) (get_or s 5 0) (get_or s 6 0) (get_or s 7 0) c.from_le_bytes-2.result
    (small 4) (small 5) (small 6) (small 7) c.from_le_bytes-2.ensures)
    (column_back (get_or s 8 0) (get_or s 9 0) (get_or s 10 0) (get_or s 11 0) c.from_le_bytes-3.result
    (small 8) (small 9) (small 10) (small 11) c.from_le_bytes-3.ensures)
    (column_back (get_or s 12 0) (get_or s 13 0) (get_or s 14 0) (get_or s 15 0) c.from_le_bytes-4.result
    (small 12) (small 13) (small 14) (small 15) c.from_le_bytes-4.ensures)
    ∙ sixteen s c.told-block
