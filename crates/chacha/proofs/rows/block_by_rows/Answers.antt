use Rattle.chacha.proofs.ByRows.{one_block}
use Rattle.chacha.proofs.rows.block_by_rows.Goals as goal

pub returns : goal.returns
returns c =
    one_block c.args.key.now c.args.nonce.now c.args.counter c.put_set.new.out c.put_set.auto.out c.put_set.ensures.stream
