use Rattle.std.proofs.Common.{◌≡◌, ℕ, ◌<◌, ◌*◌, length, get_or, rules}
use Rattle.aes.specs.Code.ExpandedKey.{IsKeySize}
use Rattle.aes.proofs.Expanded.{spelled, expanded, key_length}
use Rattle.aes.proofs.key.AesKey.from_slice.Goals as goal

pub invariant_of-result : goal.invariant_of-result
invariant_of-result c =
    let size : IsKeySize c.match-key.size = search rules in
    let long : length c.args.key.now ≡ 4 * c.match-key.size = search rules in
    expanded c.expand.result c.args.key.now c.match-key.size (search rules) size long c.expand.ensures

pub returns : goal.returns
returns c =
    let size : IsKeySize c.match-key.size = search rules in
    let long : length c.args.key.now ≡ 4 * c.match-key.size = search rules in
    let small : (i : ℕ) → get_or c.args.key.now i 0 < 256 = search rules in (
      spelled c.expand.result c.args.key.now c.match-key.size small size long c.expand.ensures,
      record { length_is = key_length c.args.key.now c.match-key.size size long; bytes = small },
    )
