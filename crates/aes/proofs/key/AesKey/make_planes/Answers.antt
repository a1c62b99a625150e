use Rattle.std.proofs.Common.{◌≡◌, ℕ, ◌+◌, subst, arith}
use Rattle.aes.specs.Schedule.{round_count, schedule}
use Rattle.aes.specs.Code.Planes.{AreReady}
use Rattle.aes.proofs.Expanded.{kept_keys, kept_length, is_key}
use Rattle.aes.proofs.key.AesKey.make_planes.Goals as goal

pub returns : goal.returns
returns c =
    let key = c.args.self.now in
    let kept = kept_keys c.self.inside.keys c.self.inside.size key c.self.invariant c.self.view_is in
    let long = kept_length c.self.inside.keys c.self.inside.size key c.self.invariant c.self.view_is in
    let k = is_key c.self.inside.keys c.self.inside.size key c.self.invariant c.self.view_is in
    let count : c.self.inside.size + 6 ≡ round_count key = omega arith in
    subst (λ (n : ℕ). AreReady c.ready_planes.new.keys (schedule key) n) count (c.ready_planes.ensures key k kept count)
