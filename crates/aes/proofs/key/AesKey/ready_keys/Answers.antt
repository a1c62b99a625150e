use Rattle.aes.proofs.Expanded.{kept_keys}
use Rattle.aes.proofs.key.AesKey.ready_keys.Goals as goal

pub returns : goal.returns
returns c = kept_keys c.self.inside.keys c.self.inside.size c.args.self.now c.self.invariant c.self.view_is
