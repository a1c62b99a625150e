use Rattle.std.proofs.Common.{◌≡◌, ℕ, ◌-◌, List, length, get_or, take, drop, ap, ◌∙◌, arith, rules}
use Rattle.std.proofs.lemmas.List.{get_or_append_left, get_or-take, get_or-drop}
use Rattle.aes.proofs.schedule.eight.Goals as goal

pub returns : goal.returns
returns c = λ i l.
    let key : List ℕ = c.args.key.now in
    let front : List ℕ = c.copy_from_slice.new.self in
    let same : front ≡ take (length key - 16) (drop 16 key) = search rules in
    let size : length front ≡ 8 = search rules in
    get_or_append_left front _ 0 i (omega (arith, size)) ∙ ap (λ (s : List ℕ). get_or s i 0) same
    ∙ get_or-take (length key - 16) (drop 16 key) i 0 (omega (arith, c.requires)) ∙ get_or-drop 16 key i 0
