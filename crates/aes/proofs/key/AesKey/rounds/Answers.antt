use Rattle.std.proofs.Common.{arith}
use Rattle.aes.proofs.Expanded.{is_key, kept_length}
use Rattle.aes.proofs.key.AesKey.rounds.Goals as goal

pub returns-clause-count : goal.returns-clause-count
returns-clause-count c =
    let long = kept_length c.self.inside.keys c.self.inside.size c.args.self.now c.self.invariant c.self.view_is in
    omega arith

pub returns-clause-is_key : goal.returns-clause-is_key
returns-clause-is_key c = is_key c.self.inside.keys c.self.inside.size c.args.self.now c.self.invariant c.self.view_is
