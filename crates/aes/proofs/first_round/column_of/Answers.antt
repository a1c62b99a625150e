use Rattle.std.proofs.Common.{◌≡◌, ℕ, List, [], ◌∷◌, get_or, sym, ap, ◌∙◌, inl, inr}
use Rattle.aes.specs.Field.{times}
use Rattle.aes.specs.Code.FirstRound.{share}
use Rattle.aes.specs.Code.Planes.{HoldsLanes}
use Rattle.aes.proofs.FirstRounds.{four_cases}
use Rattle.aes.proofs.Multiples.{single_is, triple_is}
use Rattle.aes.proofs.SixteenBlocks.{same_bytes}
use Rattle.aes.proofs.first_round.column_of.Goals as goal

pub returns-then-place-eq0 : goal.returns-then-place-eq0
returns-then-place-eq0 c = λ s small held.
    let place : c.args.place ≡ 0 = c.if-place-eq0.true in
    let twice = c.double-twice.ensures s small held in
    let thrice = c.add-thrice.ensures (λ l k. times 2 (s l k)) s twice held in
    let once = λ (l k : ℕ). sym (single_is (s l k) (small l k)) in
    four_cases (λ r. HoldsLanes 16 (get_or {A = List (List ℕ)} (c.double-twice.result ∷ c.args.once ∷ c.args.once ∷ c.add-thrice.result ∷ []) r [])
    (λ l k. share c.args.place r (s l k)))
    (same_bytes c.double-twice.result twice (λ l k hl hk. ap (λ (p : ℕ). share p 0 (s l k)) (sym place)))
    (same_bytes c.args.once held (λ l k hl hk. once l k ∙ ap (λ (p : ℕ). share p 1 (s l k)) (sym place)))
    (same_bytes c.args.once held (λ l k hl hk. once l k ∙ ap (λ (p : ℕ). share p 2 (s l k)) (sym place)))
    (same_bytes c.add-thrice.result thrice (λ l k hl hk.
    sym (triple_is (s l k) (small l k)) ∙ ap (λ (p : ℕ). share p 3 (s l k)) (sym place)))

pub returns-else-place-eq0 : goal.returns-else-place-eq0
returns-else-place-eq0 c = λ s small held.
    let place : c.args.place ≡ 15 = elim c.requires [
      | inl e ↦ absurd (c.if-place-eq0.false e)
      | inr e ↦ e
    ] in
    let twice = c.double-twice.ensures s small held in
    let thrice = c.add-thrice.ensures (λ l k. times 2 (s l k)) s twice held in
    let once = λ (l k : ℕ). sym (single_is (s l k) (small l k)) in
    four_cases (λ r. HoldsLanes 16 (get_or {A = List (List ℕ)} (c.args.once ∷ c.args.once ∷ c.add-thrice.result ∷ c.double-twice.result ∷ []) r [])
    (λ l k. share c.args.place r (s l k)))
    (same_bytes c.args.once held (λ l k hl hk. once l k ∙ ap (λ (p : ℕ). share p 0 (s l k)) (sym place)))
    (same_bytes c.args.once held (λ l k hl hk. once l k ∙ ap (λ (p : ℕ). share p 1 (s l k)) (sym place)))
    (same_bytes c.add-thrice.result thrice (λ l k hl hk.
    sym (triple_is (s l k) (small l k)) ∙ ap (λ (p : ℕ). share p 2 (s l k)) (sym place)))
    (same_bytes c.double-twice.result twice (λ l k hl hk. ap (λ (p : ℕ). share p 3 (s l k)) (sym place)))
