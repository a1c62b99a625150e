use Rattle.std.proofs.Common.{◌/◌, length, rules}
use Rattle.aes.proofs.Expanded.{spelled, expanded, key_size}
use Rattle.aes.proofs.key.AesKey.from_ready_keys.Goals as goal

pub invariant_of-result : goal.invariant_of-result
invariant_of-result c =
    expanded c.args.keys.now c.args.key.now (length c.args.key.now / 4) (search rules)
    (key_size c.args.key.now c.requires.long).0 (key_size c.args.key.now c.requires.long).1 c.requires.keys

pub returns-clause-value : goal.returns-clause-value
returns-clause-value c =
    spelled c.args.keys.now c.args.key.now (length c.args.key.now / 4) (search rules)
    (key_size c.args.key.now c.requires.long).0 (key_size c.args.key.now c.requires.long).1 c.requires.keys
