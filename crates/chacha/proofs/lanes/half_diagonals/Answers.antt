use Rattle.std.proofs.Common.{◌∙◌, ℕ, List, ap}
use Rattle.chacha.specs.Block.{add_xor_rotate}
use Rattle.chacha.specs.Code.Halves.{half_diagonals}
use Rattle.chacha.proofs.lanes.half_diagonals.Goals as goal

pub returns : goal.returns
unfolding half_diagonals
returns g c = λ j l.
    let first : ℕ → ℕ → ℕ → List ℕ → List ℕ = λ a b d. add_xor_rotate a b d c.args.n in
    let second : ℕ → ℕ → ℕ → List ℕ → List ℕ = λ a b d. add_xor_rotate a b d c.args.m in
    c.add_xor_rotate-8.ensures j l
    ∙ ap (second 9 14 4) (c.add_xor_rotate-7.ensures j l
    ∙ ap (second 8 13 7) (c.add_xor_rotate-6.ensures j l
    ∙ ap (second 11 12 6) (c.add_xor_rotate-5.ensures j l
    ∙ ap (second 10 15 5) (c.add_xor_rotate-4.ensures j l
    ∙ ap (first 3 4 14) (c.add_xor_rotate-3.ensures j l
    ∙ ap (first 2 7 13) (c.add_xor_rotate-2.ensures j l
    ∙ ap (first 1 6 12) (c.add_xor_rotate.ensures j l)))))))
