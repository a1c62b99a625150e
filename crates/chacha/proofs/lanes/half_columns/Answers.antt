use Rattle.std.proofs.Common.{◌∙◌, ℕ, List, ap}
use Rattle.chacha.specs.Block.{add_xor_rotate}
use Rattle.chacha.specs.Code.Halves.{half_columns}
use Rattle.chacha.proofs.lanes.half_columns.Goals as goal

pub returns : goal.returns
unfolding half_columns
returns g c = λ j l.
    let first : ℕ → ℕ → ℕ → List ℕ → List ℕ = λ a b d. add_xor_rotate a b d c.args.n in
    let second : ℕ → ℕ → ℕ → List ℕ → List ℕ = λ a b d. add_xor_rotate a b d c.args.m in
    c.add_xor_rotate-8.ensures j l
    ∙ ap (second 11 15 7) (c.add_xor_rotate-7.ensures j l
    ∙ ap (second 10 14 6) (c.add_xor_rotate-6.ensures j l
    ∙ ap (second 9 13 5) (c.add_xor_rotate-5.ensures j l
    ∙ ap (second 8 12 4) (c.add_xor_rotate-4.ensures j l
    ∙ ap (first 3 7 15) (c.add_xor_rotate-3.ensures j l
    ∙ ap (first 2 6 14) (c.add_xor_rotate-2.ensures j l
    ∙ ap (first 1 5 13) (c.add_xor_rotate.ensures j l)))))))
