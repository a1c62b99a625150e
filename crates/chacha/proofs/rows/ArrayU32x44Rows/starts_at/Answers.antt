use Rattle.chacha.proofs.ByRows.{one_start}
use Rattle.chacha.proofs.rows.ArrayU32x44Rows.starts_at.Goals as goal

pub returns : goal.returns
returns c =
    one_start c.args.key.now c.args.nonce.now c.initial_state-words.result c.args.counter c.initial_state-words.ensures
