use Rattle.std.proofs.Common.{sym, subst, rules}
use Rattle.octets.specs.Bytes.{IsBlock}
use Rattle.gf128.proofs.LookUps.{places_ok, looked_up_is, looked_up_block, high_place, low_place}
use Rattle.gf128.proofs.nibbles.Nibbles.look.Goals as goal

pub swizzle-by_high : goal.swizzle-by_high
swizzle-by_high c =
    let s = c.args.self in
    places_ok s.high s.long_high (high_place s.word.bytes s.high s.word.is_block s.high_is)

pub swizzle-by_low : goal.swizzle-by_low
swizzle-by_low c =
    let s = c.args.self in
    places_ok s.low s.long_low (low_place s.word.bytes s.low s.low_is)

pub invariant_of-result : goal.invariant_of-result
invariant_of-result c =
    let s = c.args.self in
    record {
      is_block =
          subst IsBlock (sym (looked_up_is c.args.high c.args.low s.word.bytes s.high s.low s.word.is_block s.long_high s.long_low s.high_is s.low_is))
          (looked_up_block c.args.high c.args.low s.word.bytes (λ i. search rules) (λ i. search rules));
    }

pub returns : goal.returns
returns c =
    let s = c.args.self in
    looked_up_is c.args.high c.args.low s.word.bytes s.high s.low s.word.is_block s.long_high s.long_low s.high_is s.low_is
