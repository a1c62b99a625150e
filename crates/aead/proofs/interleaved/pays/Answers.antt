use Rattle.std.proofs.Common.{◌≡◌, ◌*◌, ◌/◌, ap, arith, length}
use Rattle.std.proofs.lemmas.Grind.{common_steps}
use Rattle.std.proofs.lemmas.List.{length-drop}
use Rattle.aead.proofs.interleaved.pays.Goals as goal

pub returns-then-interleaving_pays : goal.returns-then-interleaving_pays
returns-then-interleaving_pays c = λ s m yes h.
    let none : length c.rest.result.now ≡ 0 = grind (arith, common_steps, c.is_empty.ensures, yes) in
    omega (arith, none, ap length (c.rest.ensures.value _ m h.1), length-drop (length m / 16 * 16) m)
