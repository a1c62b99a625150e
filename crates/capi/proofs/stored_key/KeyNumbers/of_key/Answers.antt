use Rattle.std.proofs.Common.{◌∙◌, ap, arith, length, replicate}
use Rattle.std.proofs.lemmas.List.{drop-replicate}
use Rattle.std.proofs.lemmas.Slice.{take-put_mid, drop-put_mid}
use Rattle.aead.specs.Suites.{key_length}
use Rattle.capi.proofs.stored_key.KeyNumbers.of_key.Goals as goal

pub returns-clause-key : goal.returns-clause-key
returns-clause-key c =
    take-put_mid 0 (length c.args.key.now) (replicate 32 0) c.copy_from_slice.new.self (key_length c.args.suite)
    (omega (arith, ap length c.copy_from_slice.ensures.after, c.requires)) (omega arith)
    ∙ c.copy_from_slice.ensures.after

pub returns-clause-padded : goal.returns-clause-padded
returns-clause-padded c =
    drop-put_mid 0 (length c.args.key.now) (replicate 32 0) c.copy_from_slice.new.self (key_length c.args.suite)
    (omega (arith, c.requires)) (omega arith) (omega (arith, ap length c.copy_from_slice.ensures.after))
    ∙ drop-replicate (key_length c.args.suite) 32 0
