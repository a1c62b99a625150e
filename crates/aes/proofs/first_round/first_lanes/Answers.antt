use Rattle.std.proofs.Common.{◌≡◌, ℕ, List, [], ◌∷◌, ◌+◌, ◌-◌, ◌*◌, ◌/◌, ◌%◌, ◌==◌, cond, take, drop, get_or, length, refl, ap, ◌∙◌, arith, rules}
use Rattle.std.proofs.lemmas.List.{get_or-take, get_or-drop, length-take-le, length-drop}
use Rattle.aes.proofs.FirstRounds.{first_lane}
use Rattle.aes.proofs.first_round.first_lanes.Goals as goal

pub returns-clause-each : goal.returns-clause-each
returns-clause-each c = λ l h.
    let list : List ℕ = get_or c.args.lists.now (c.args.run / 2) [] in
    let from : ℕ = 8 * (c.args.run % 2) in
    let n : ℕ = from + 8 - from in
    let eight : n ≡ 8 = omega arith in
    let long : length list ≡ 16 = search rules in
    let part : List ℕ = take n (drop from list) in
    let rest : length (drop from list) ≡ 16 - from = length-drop from list ∙ ap (λ (x : ℕ). x - from) long in
    let size : length part ≡ 8 = length-take-le n (drop from list) (omega (arith, rest)) ∙ eight in
    first_lane (take 8 part) (0 ∷ 0 ∷ 0 ∷ 0 ∷ 0 ∷ 0 ∷ 0 ∷ 0 ∷ []) l (length-take-le 8 part (omega (arith, size))) refl refl h
    ∙ ap (λ (x : ℕ). cond (l % 4 == 0) x 0) (get_or-take 8 part (l / 4) 0 (omega arith)
    ∙ get_or-take n (drop from list) (l / 4) 0 (omega arith) ∙ get_or-drop from list (l / 4) 0)
