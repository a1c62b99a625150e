use Rattle.std.proofs.Common.{◌∙◌, ap, arith, length, replicate}
use Rattle.std.proofs.lemmas.List.{drop-replicate}
use Rattle.std.proofs.lemmas.Slice.{drop-put_mid}
use Rattle.aead.proofs.pieces.key_and_nonce.KeyAndNonce.of.Goals as goal

pub returns-clause-padded : goal.returns-clause-padded
returns-clause-padded c =
    drop-put_mid 0 (length c.args.key.now) (replicate 32 0) c.copy_from_slice.new.self (length c.args.key.now)
    (omega arith) (omega (arith, c.requires)) (omega (arith, ap length c.copy_from_slice.ensures.after))
    ∙ drop-replicate (length c.args.key.now) 32 0
