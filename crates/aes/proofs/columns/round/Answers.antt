use Rattle.std.proofs.Common.{◌≡◌, ℕ, List, get_or, length, ap₂, ◌∙◌, rules}
use Rattle.aes.specs.Cipher.{sub_bytes, shift_rows, mix_columns, add_round_key}
use Rattle.aes.specs.Code.Columns.{columns_of, state_of}
use Rattle.aes.proofs.Steps.{quad}
use Rattle.aes.proofs.ColumnWords.{round_is}
use Rattle.aes.proofs.columns.round.Goals as goal

pub returns : goal.returns
returns c =
    let t = c.args.state in
    let k = c.args.key in
    let state_long : length t ≡ 4 = search rules in
    let key_long : length k ≡ 4 = search rules in
    round_is (get_or t 0 0) (get_or t 1 0) (get_or t 2 0) (get_or t 3 0) (get_or k 0 0) (get_or k 1 0)
    (get_or k 2 0) (get_or k 3 0)
    c.mixed_column.result c.mixed_column-2.result c.mixed_column-3.result c.mixed_column-4.result
    c.mixed_column.ensures c.mixed_column-2.ensures c.mixed_column-3.ensures c.mixed_column-4.ensures
    ∙ ap₂ (λ (k s : List ℕ).
    add_round_key (columns_of k) 0 (mix_columns (shift_rows (sub_bytes (state_of s))))) (quad k key_long)
    (quad t state_long)
