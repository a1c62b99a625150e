use Rattle.std.proofs.Common.{List, ℕ, ap₂, bit_xor}
use Rattle.octets.specs.Bytes.{le}
use Rattle.gf128.proofs.Pairs.{places_ok32, high_place32, low_place32}
use Rattle.gf128.proofs.WordPairs.{looked_halves, pair_of_halves, first_block, second_block}
use Rattle.gf128.proofs.LookUps.{looked_up_block}
use Rattle.gf128.proofs.nibbles.NibblePairs.look.Goals as goal

pub swizzle-by_high : goal.swizzle-by_high
swizzle-by_high c =
    let s = c.args.self in
    places_ok32 s.high s.long_high (high_place32 s.first.bytes s.second.bytes s.high s.first.is_block s.second.is_block s.high_is)

pub swizzle-by_low : goal.swizzle-by_low
swizzle-by_low c =
    let s = c.args.self in
    places_ok32 s.low s.long_low (low_place32 s.first.bytes s.second.bytes s.low s.low_is)

pub invariant_of-result : goal.invariant_of-result
invariant_of-result c =
    let s = c.args.self in
    let t = c.args.high in
    let u = c.args.low in
    let halves = looked_halves t.bytes u.bytes s.first.bytes s.second.bytes s.high s.low t.is_pair u.is_pair s.first.is_block
    s.second.is_block s.long_high s.long_low s.high_is s.low_is in
    record {
      is_pair =
          pair_of_halves _ _ _ halves.0 halves.1 halves.2
          (looked_up_block _ _ s.first.bytes (first_block t.bytes t.is_pair).bytes (first_block u.bytes u.is_pair).bytes)
          (looked_up_block _ _ s.second.bytes (second_block t.bytes t.is_pair).bytes (second_block u.bytes u.is_pair).bytes);
    }

pub returns : goal.returns
returns c =
    let s = c.args.self in
    let t = c.args.high in
    let u = c.args.low in
    let halves = looked_halves t.bytes u.bytes s.first.bytes s.second.bytes s.high s.low t.is_pair u.is_pair s.first.is_block
    s.second.is_block s.long_high s.long_low s.high_is s.low_is in
    ap₂ (λ (x y : List ℕ). bit_xor (le x) (le y)) halves.1 halves.2
