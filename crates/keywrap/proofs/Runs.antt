-- Sequences of steps.
use Rattle.std.proofs.Common.{◌≡◌, ℕ, ◌+◌, ◌*◌, ◌-◌, ◌<◌, List, refl, sym, ap, ◌∙◌, arith, add-one}
use Rattle.keywrap.specs.Wrapping.{step, steps}

-- the steps 1 to t, and then step t + 1, are the steps 1 to t + 1
pub steps_more : (key s : List ℕ) (t : ℕ) → step key (t + 1) (steps key t s) ≡ steps key (t + 1) s
unfolding steps
steps_more key s t = rw add-one refl

-- after the first 0 steps, the register is as it was
pub steps_none : (key s : List ℕ) (t : ℕ) → t ≡ 0 → s ≡ steps key t s
unfolding steps
steps_none key s t e = rw e refl

-- `now` leads to `last`: from each register that the first t of n steps take to `now`, all n steps lead to `last`
abbrev pub LeadsTo : List ℕ → ℕ → List ℕ → ℕ → List ℕ → Type 0
LeadsTo key n last t now = (s : List ℕ) → steps key t s ≡ now → steps key n s ≡ last

-- if step t + 1 takes a register to one that leads to `last`, that register leads to `last` too
pub leads_before : (key : List ℕ) (n t : ℕ) (last after before : List ℕ) → LeadsTo key n last (t + 1) after
    → step key (t + 1) before ≡ after
    → LeadsTo key n last t before
leads_before key n t last after before leads e s h =
    leads s (sym (steps_more key s t) ∙ ap (step key (t + 1)) h ∙ e)

-- r rounds of n steps are r - 1 rounds and n more steps
pub one_round_less : (n r : ℕ) → 0 < r → n * r ≡ n * (r - 1) + n
one_round_less n r h =
    let q : ℕ = r - 1 in
    let e : r ≡ q + 1 = omega arith in
    ap (λ x. n * x) e ∙ omega arith
