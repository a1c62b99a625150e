use Rattle.std.proofs.Common.{◌≡◌, ◌-◌, ◌*◌, ◌∙◌, ap, length, take, drop, length-drop, arith}
use Rattle.std.proofs.lemmas.List.{take_all}
use Rattle.octets.specs.Bytes.{le}
use Rattle.octets.proofs.Orders.{little_number_is}
use Rattle.chacha.proofs.state.word.Goals as goal

pub returns : goal.returns
returns c =
    let bytes = c.args.bytes.now in
    let at = 4 * c.args.i in
    let long = length-drop at bytes in
    let rest : take (length bytes - at) (drop at bytes) ≡ drop at bytes =
    take_all (length bytes - at) (drop at bytes) (omega (arith, long)) in
    c.read_u32.ensures ∙ little_number_is 4 (take (length bytes - at) (drop at bytes))
    (rw rest (omega (arith, c.requires, long)))
    ∙ ap (λ l. le (take 4 l)) rest
