use Rattle.std.proofs.Common.{ℕ, List, ◌++◌, ap₂, ◌∙◌, subst}
use Rattle.octets.specs.Bytes.{IsBlock}
use Rattle.gf128.specs.Polyval.{IsReversedMulX}
use Rattle.aead.specs.Sealing.{authentication_key}
use Rattle.aead.proofs.derived_keys.multiplier_key.Goals as goal

pub returns-clause-value : goal.returns-clause-value
unfolding authentication_key
returns-clause-value c =
    let P : List ℕ → Type 0 = λ h. IsReversedMulX h c.reversed_mul_x.result in
    subst P (c.new-key.ensures.value ∙ c.joined.ensures ∙ ap₂ (λ a b. a ++ b) c.at.ensures c.at-2.ensures)
    c.reversed_mul_x.ensures.value

pub returns-clause-of_block : goal.returns-clause-of_block
unfolding authentication_key
returns-clause-of_block c =
    let P : List ℕ → Type 0 = λ h. IsBlock h in
    subst P (c.new-key.ensures.value ∙ c.joined.ensures ∙ ap₂ (λ a b. a ++ b) c.at.ensures c.at-2.ensures)
    c.reversed_mul_x.ensures.of_block
