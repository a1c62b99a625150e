use Rattle.chacha.proofs.ByRows.{two_starts}
use Rattle.chacha.proofs.rows.ArrayU32x84Rows.starts_at.Goals as goal

pub returns : goal.returns
returns c =
    two_starts c.args.key.now c.args.nonce.now c.initial_state-w.result c.args.counter c.initial_state-w.ensures
