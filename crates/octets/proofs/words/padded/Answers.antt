use Rattle.std.proofs.Common.{◌≡◌, ◌+◌, ◌*◌, ◌≤◌, ◌∙◌, length, take, drop, ap, sym, arith, rules}
use Rattle.std.specs.Int.{w64, w128, to_le_bytes}
use Rattle.std.proofs.lemmas.List.{length-take-le}
use Rattle.octets.specs.Bytes.{le}
use Rattle.octets.proofs.Numbers.{le_is, le_split, le_padded}
use Rattle.octets.proofs.words.padded.Goals as goal

pub returns-in-Some : goal.returns-in-Some
returns-in-Some c =
    let bs = c.args.bytes.now in
    let parts = c.in-Some.ensures.cases in
    let eight : 8 ≤ length bs = omega (arith, parts.2) in
    let low : c.from.result ≡ le (take 8 bs) = c.from.ensures ∙ c.from_le_bytes-low.ensures
    ∙ sym (le_is w64 c.in-Some.front.now (omega arith) (ap length parts.0 ∙ length-take-le 8 bs eight)) ∙ ap le parts.0 in
    let high : c.from-in-Some.result ≡ le (drop 8 bs) = c.from-in-Some.ensures ∙ c.number_of_seven-high.ensures
    ∙ ap le parts.1 in
    let number : c.from.result + c.from-in-Some.result * 0x10000000000000000 ≡ le bs =
    omega (arith, low, high, le_split bs 8 eight) in
    c.le_bytes.ensures ∙ ap (to_le_bytes w128) number ∙ le_padded bs (omega (arith, c.requires)) (search rules)

pub returns-in-None : goal.returns-in-None
returns-in-None c =
    c.le_bytes-in-None.ensures ∙ ap (to_le_bytes w128) (c.from-in-None.ensures ∙ c.number_of_seven.ensures)
    ∙ le_padded c.args.bytes.now (omega (arith, c.requires)) (search rules)
