use Rattle.std.proofs.Common.{ℕ, get_or, ap, ap₂, ◌∙◌, List, arith, bit_xor}
use Rattle.aes.specs.Field.{sbox}
use Rattle.aes.specs.Schedule.{xor_word}
use Rattle.aes.specs.Cipher.{mix_column}
use Rattle.aes.specs.Code.Columns.{column_of}
use Rattle.aes.proofs.Rows.{four}
use Rattle.aes.proofs.Steps.{sbox_small}
use Rattle.aes.proofs.ColumnWords.{column_row, column_small, mixed_is}
use Rattle.aes.proofs.columns.mixed_column.Goals as goal

pub returns : goal.returns
returns t =
    let key = t.args.key in
    let a = column_row t.args.a 0 t.to_le_bytes.result t.to_le_bytes.ensures in
    let b = column_row t.args.b 1 t.to_le_bytes-2.result t.to_le_bytes-2.ensures in
    let c = column_row t.args.c 2 t.to_le_bytes-3.result t.to_le_bytes-3.ensures in
    let d = column_row t.args.d 3 t.to_le_bytes-4.result t.to_le_bytes-4.ensures in
    let row0 : ℕ = get_or t.to_le_bytes.result 0 0 in
    let row1 : ℕ = get_or t.to_le_bytes-2.result 1 0 in
    let row2 : ℕ = get_or t.to_le_bytes-3.result 2 0 in
    let row3 : ℕ = get_or t.to_le_bytes-4.result 3 0 in
    ap (λ (x : ℕ). column_of (bit_xor (bit_xor t.entry-4.result x) key)) (
    ap₂ bit_xor t.rotate_left-second.ensures
    (ap₂ bit_xor t.rotate_left-third.ensures t.rotate_left-fourth.ensures))
    ∙ mixed_is (sbox row0) (sbox row1) (sbox row2) (sbox row3) key t.entry-4.result t.entry.result
    t.entry-2.result t.entry-3.result
    (sbox_small row0 (rw a (column_small t.args.a 0))) (sbox_small row1 (rw b (column_small t.args.b 1)))
    (sbox_small row2 (rw c (column_small t.args.c 2))) (sbox_small row3 (rw d (column_small t.args.d 3)))
    (omega arith, t.entry-4.ensures) (omega arith, t.entry.ensures) (omega arith, t.entry-2.ensures)
    (omega arith, t.entry-3.ensures)
    ∙ ap (λ (v : List ℕ). xor_word (mix_column v) (column_of key))
    (four (ap sbox a) (ap sbox b) (ap sbox c) (ap sbox d))
