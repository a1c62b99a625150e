use Rattle.std.proofs.Common.{◌≡◌, ℕ, List, get_or, length, ap₂, ◌∙◌, rules}
use Rattle.aes.specs.Cipher.{add_round_key}
use Rattle.aes.specs.Code.Columns.{columns_of, state_of}
use Rattle.aes.proofs.Steps.{quad}
use Rattle.aes.proofs.ColumnWords.{added_is}
use Rattle.aes.proofs.columns.add_key.Goals as goal

pub returns : goal.returns
returns c =
    let t = c.args.state in
    let k = c.args.key in
    let state_long : length t ≡ 4 = search rules in
    let key_long : length k ≡ 4 = search rules in
    added_is (get_or t 0 0) (get_or t 1 0) (get_or t 2 0) (get_or t 3 0) (get_or k 0 0) (get_or k 1 0)
    (get_or k 2 0) (get_or k 3 0)
    ∙ ap₂ (λ (k s : List ℕ). add_round_key (columns_of k) 0 (state_of s)) (quad k key_long)
    (quad t state_long)
