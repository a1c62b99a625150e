use Rattle.std.proofs.Common.{◌≡◌, ℕ, ◌-◌, ◌*◌, ◌/◌, ◌^◌, ◌∙◌, ap, arith, rules}
use Rattle.std.specs.Int.{w128, to_le_bytes, from_le_bytes}
use Rattle.octets.proofs.Numbers.{le_shifted}
use Rattle.octets.proofs.pieces.last_bytes.Goals as goal

pub returns : goal.returns
returns c =
    let block : from_le_bytes w128 c.copy_from_slice.new.self ≡ from_le_bytes w128 c.args.bytes.now =
    ap (from_le_bytes w128) c.copy_from_slice.ensures.after in
    let e : c.le_bytes.result ≡ to_le_bytes w128 (from_le_bytes w128 c.args.bytes.now / 2 ^ (8 * (16 - c.args.count))) =
    c.le_bytes.ensures
    ∙ ap (λ (x : ℕ). to_le_bytes w128 (x / 2 ^ (8 * (16 - c.args.count)))) (c.from_le_bytes.ensures ∙ block) in
    e ∙ le_shifted c.args.bytes.now (16 - c.args.count) c.requires.0 (search rules) (omega arith)
