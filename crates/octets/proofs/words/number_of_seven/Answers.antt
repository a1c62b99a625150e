use Rattle.std.proofs.Common.{◌≡◌, ◌≤◌, ◌∙◌, length, take, drop, ap, sym, arith}
use Rattle.std.specs.Int.{w32}
use Rattle.std.proofs.lemmas.List.{length-take-le}
use Rattle.octets.specs.Bytes.{le}
use Rattle.octets.proofs.Numbers.{le_is, le_split}
use Rattle.octets.proofs.words.number_of_seven.Goals as goal

pub returns-in-Some : goal.returns-in-Some
returns-in-Some c =
    let bs = c.args.bytes.now in
    let parts = c.in-Some.ensures.cases in
    let four : 4 ≤ length bs = omega (arith, parts.2) in
    let low : c.from.result ≡ le (take 4 bs) = c.from.ensures ∙ c.from_le_bytes.ensures
    ∙ sym (le_is w32 c.in-Some.front.now (omega arith) (ap length parts.0 ∙ length-take-le 4 bs four)) ∙ ap le parts.0 in
    let high : c.from-in-Some.result ≡ le (drop 4 bs) = c.from-in-Some.ensures ∙ c.number_of_three.ensures.value
    ∙ ap le parts.1 in
    omega (arith, low, high, le_split bs 4 four)
