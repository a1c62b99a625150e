use Rattle.std.proofs.Common.{List, ℕ, ap, ◌∙◌, arith}
use Rattle.aes.specs.Field.{sbox}
use Rattle.aes.specs.Schedule.{xor_word}
use Rattle.aes.specs.Code.Columns.{column_of}
use Rattle.aes.proofs.Rows.{four}
use Rattle.aes.proofs.ColumnWords.{column_xor, column_row, column_back}
use Rattle.aes.proofs.columns.last_column.Goals as goal

pub returns : goal.returns
returns t =
    let a = column_row t.args.a 0 t.to_le_bytes.result t.to_le_bytes.ensures in
    let b = column_row t.args.b 1 t.to_le_bytes-2.result t.to_le_bytes-2.ensures in
    let c = column_row t.args.c 2 t.to_le_bytes-3.result t.to_le_bytes-3.ensures in
    let d = column_row t.args.d 3 t.to_le_bytes-4.result t.to_le_bytes-4.ensures in
    column_xor t.from_le_bytes-plain.result t.args.key
    ∙ ap (λ (v : List ℕ). xor_word v (column_of t.args.key)) (
    column_back t.substituted.result t.substituted-2.result t.substituted-3.result t.substituted-4.result
    t.from_le_bytes-plain.result (omega arith) (omega arith) (omega arith) (omega arith)
    t.from_le_bytes-plain.ensures
    ∙ four (t.substituted.ensures ∙ ap sbox a) (t.substituted-2.ensures ∙ ap sbox b)
    (t.substituted-3.ensures ∙ ap sbox c) (t.substituted-4.ensures ∙ ap sbox d))
