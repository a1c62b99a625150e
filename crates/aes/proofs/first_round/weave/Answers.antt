use Rattle.std.proofs.Common.{ℕ, List, [], ◌∷◌, ◌+◌, ◌*◌, ◌/◌, ◌%◌, get_or, ap, ap₂, ◌∙◌}
use Rattle.aes.proofs.FirstRounds.{back_places, front_places, set_four, taken, woven_lane}
use Rattle.aes.proofs.first_round.weave.Goals as goal

pub returns : goal.returns
returns c = λ p r hp hr.
    let front : List ℕ = taken front_places c.args.a c.args.c in
    let other_front : List ℕ = taken front_places c.args.b c.args.d in
    let back : List ℕ = taken back_places c.args.a c.args.c in
    let other_back : List ℕ = taken back_places c.args.b c.args.d in
    ap (λ (v : List (List ℕ)). get_or (get_or v (p / 4) []) (4 * (p % 4) + r) 0)
    (set_four c.args.lists.now c.write.new.list c.write-2.new.list c.write-3.new.list c.write-4.new.list c.told-lists
    ∙ ap₂ (λ (u v : List ℕ). u ∷ v ∷ c.write-3.new.list ∷ c.write-4.new.list ∷ []) c.write.ensures c.write-2.ensures
    ∙ ap₂ (λ (u v : List ℕ). taken front_places front other_front ∷ taken back_places front other_front ∷ u ∷ v ∷ [])
    c.write-3.ensures c.write-4.ensures)
    ∙ woven_lane c.args.a c.args.b c.args.c c.args.d c.fits-a.0 c.fits-b.0 c.fits-c.0 c.fits-d.0 p r hp hr
