use Rattle.std.proofs.Common.{ℕ, ◌+◌, ◌-◌, List, [], ◌∷◌, ◌++◌, map, take, drop, get_or, ap, ◌∙◌}
use Rattle.aead.proofs.CutPieces.{taken, passed, completed, same_so_far}
use Rattle.aead.proofs.cuts.cut_into.Goals as goal
use Rattle.aead.proofs.cuts.cut_into.Goals.{then-cut-bytes+in_ok-add, else-cut-bytes}

pub loop-cut-preserved : goal.loop-cut-preserved
loop-cut-preserved g c =
    let body : List ℕ = c.args.bytes.now in
    let cuts : List ℕ = c.args.cuts.now in
    let i : ℕ = c.loop-cut.cut-index in
    let place : ℕ = c.loop-cut.place in
    let pieces : List (List ℕ) = map (λ v. v.items) c.loop-cut.pieces.items in
    elim c.if-cut-bytes.branch [
      | then-cut-bytes+in_ok-add w ↦
          same_so_far body cuts (i + 1) c.if-cut-bytes.place (get_or cuts i 0)
          (map (λ v. v.items) c.if-cut-bytes.pieces.items)
          (pieces ++ take (get_or cuts i 0 - place) (drop place body) ∷ []) w.place-is
          (ap (λ v. map (λ u. u.items) v.items) w.pieces-is ∙ w.in_ok-add.ensures)
          (taken body cuts i place pieces c.loop-cut-test.true w.if-cut-bytes.true c.loop-cut.invariant)
      | else-cut-bytes w ↦ same_so_far body cuts (i + 1) c.if-cut-bytes.place place
          (map (λ v. v.items) c.if-cut-bytes.pieces.items) pieces w.place-is
          (ap (λ v. map (λ u. u.items) v.items) w.pieces-is)
          (passed body cuts i place pieces c.loop-cut-test.true w.if-cut-bytes.false c.loop-cut.invariant)
    ]

pub returns : goal.returns
returns g c =
    completed c.args.bytes.now c.args.cuts.now c.loop-cut.cut-index c.loop-cut.place
    (map (λ v. v.items) c.loop-cut.pieces.items) _ c.loop-cut-test.false c.loop-cut.invariant
    c.in_ok-add-2.ensures
