use Rattle.std.proofs.Common.{◌/◌, length, rules}
use Rattle.aes.proofs.Expanded.{spelled, expanded, key_size}
use Rattle.aes.proofs.key.AesKey.expanded.Goals as goal

pub expand-requires-clause-size : goal.expand-requires-clause-size
expand-requires-clause-size c = (key_size c.args.key.now c.requires).0

pub expand-requires-clause-long : goal.expand-requires-clause-long
expand-requires-clause-long c = (key_size c.args.key.now c.requires).1

pub invariant_of-result : goal.invariant_of-result
invariant_of-result c =
    expanded c.expand.result c.args.key.now (length c.args.key.now / 4) (search rules)
    (key_size c.args.key.now c.requires).0 (key_size c.args.key.now c.requires).1 c.expand.ensures

pub returns-clause-value : goal.returns-clause-value
returns-clause-value c =
    spelled c.expand.result c.args.key.now (length c.args.key.now / 4) (search rules)
    (key_size c.args.key.now c.requires).0 (key_size c.args.key.now c.requires).1 c.expand.ensures
