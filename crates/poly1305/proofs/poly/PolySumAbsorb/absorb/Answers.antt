use Rattle.std.proofs.Common.{◌≡◌, ℕ, ◌+◌, ◌-◌, ◌*◌, ◌/◌, ◌∙◌, List, ◌++◌}
use Rattle.std.proofs.Common.{append_assoc, ap, arith, drop, length, subst, sym, take}
use Rattle.std.proofs.lemmas.List.{drop-drop, length-append, length-drop, length-take-le, take-append-drop, take_all}
use Rattle.poly1305.specs.Code.States.{PolySumHolds}
use Rattle.poly1305.proofs.poly.PolySumAbsorb.absorb.Goals as goal

pub returns-then-blocks-lt-TWO_SUMS_FROM : goal.returns-then-blocks-lt-TWO_SUMS_FROM
returns-then-blocks-lt-TWO_SUMS_FROM g c = c.absorb_blocks.ensures

pub returns : goal.returns
returns g c = λ k m whole held.
    let f = g.M.Multiplier.factor in
    let x : List ℕ = c.args.blocks.now in
    let h : ℕ = length x / 32 * 16 in
    let front : List ℕ = take h x in
    let back : List ℕ = take (2 * h - h) (drop h x) in
    let rest : List ℕ = take (length x - 2 * h) (drop (2 * h) x) in
    let n1 : length front ≡ h = length-take-le h x (omega arith) in
    let n2 : length back ≡ h =
    length-take-le (2 * h - h) (drop h x) (omega (arith, length-drop h x)) ∙ omega arith in
    let place : h + h ≡ 2 * h = omega arith in
    let half : 2 * h - h ≡ h = omega arith in
    let last : rest ≡ drop (2 * h) x = take_all (length x - 2 * h) (drop (2 * h) x) (omega (arith, length-drop (2 * h) x)) in
    let behind : drop h (drop h x) ≡ rest =
    drop-drop h h x ∙ ap (λ (i : ℕ). drop i x) place ∙ sym last in
    let second : back ++ rest ≡ drop h x =
    ap (λ (i : ℕ). take i (drop h x) ++ rest) half
    ∙ ap (λ (l : List ℕ). take h (drop h x) ++ l) (sym behind) ∙ take-append-drop h (drop h x) in
    let joined : (m ++ (front ++ back)) ++ rest ≡ m ++ x =
    append_assoc m (front ++ back) rest ∙ ap (λ (l : List ℕ). m ++ l) (append_assoc front back rest
    ∙ ap (λ (l : List ℕ). front ++ l) second ∙ take-append-drop h x) in
    subst (PolySumHolds f c.absorb_blocks-2.new.self k) joined
    (c.absorb_blocks-2.ensures k (m ++ (front ++ back))
    (omega (arith, length-append m (front ++ back), length-append front back, n1, n2, whole))
    (c.absorb_halves.ensures k m whole held))
