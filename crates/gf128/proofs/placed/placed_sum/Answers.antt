use Rattle.std.proofs.Common.{◌≡◌, ℕ, ◌+◌, ◌*◌, ◌∙◌, ap, sym, arith, refl}
use Rattle.gf128.specs.Code.Words.{placed, folded_wide}
use Rattle.gf128.proofs.Placings.{placed_none, placed_more}
use Rattle.gf128.proofs.placed.placed_sum.Goals as goal

pub low-init : goal.low-init
low-init g c = c.none-sum.ensures ∙ sym (placed_none (g.P.Parts.parts c.args.words.now))

pub low-preserved : goal.low-preserved
low-preserved g c =
    placed_more (g.P.Parts.parts c.args.words.now) c.low.j (c.low.j + 1) (g.L.Lanes.value c.part.result) _ _ (8 * c.low.j + 8) c.low.invariant
    c.part.ensures c.low-sum.ensures refl refl

pub high-init : goal.high-init
high-init g c =
    let words : ℕ → ℕ = g.P.Parts.parts c.args.words.now in
    let end : c.low.j ≡ 7 = omega (arith, c.low-test.false, c.low.auto.j-end) in
    placed_more words 7 8 (g.L.Lanes.value c.part-seventh.result) _ _ 64 (c.low.invariant ∙ ap (placed words) end) c.part-seventh.ensures
    c.middle-sum.ensures refl refl

pub high-preserved : goal.high-preserved
high-preserved g c =
    placed_more (g.P.Parts.parts c.args.words.now) (c.high.j + 8) (c.high.j + 1 + 8) (g.L.Lanes.value c.part-in-high.result) _ _
    (64 + (8 * c.high.j + 8)) c.high.invariant c.part-in-high.ensures c.high-sum.ensures (omega arith) (omega arith)

pub returns : goal.returns
returns g c =
    let words : ℕ → ℕ = g.P.Parts.parts c.args.words.now in
    let end : c.high.j + 8 ≡ 15 = omega (arith, c.high-test.false, c.high.auto.j-end) in
    let number = placed_more words 15 16 (g.L.Lanes.value c.part-last.result) _ _ 128 (c.high.invariant ∙ ap (placed words) end)
    c.part-last.ensures refl refl refl in
    c.reduce_with.ensures ∙ ap folded_wide number
