-- A sum over whole blocks, to which each step adds one block.
use Rattle.std.specs.Prelude.{◌≡◌, ℕ, ◌/◌, ◌%◌, List, ◌++◌, length}
use Rattle.std.proofs.Common.{ap, ◌∙◌}
use Rattle.std.proofs.lemmas.List.{append_assoc}
use Rattle.poly1305.specs.Poly1305.{prime, block_sum, r_of}
use Rattle.poly1305.specs.Code.Residue.{pair}
use Rattle.poly1305.specs.declared.partial_sum.PartialSum.{PartialSum}

-- t is the sum under the key over the whole blocks at the front of m, and the bytes of m after them are left
pub record PartialSumHolds {M : Type 0} (factor : M → ℕ) (t : PartialSum M) (left : List ℕ) (key : List ℕ)
    (m : List ℕ) : Type 0 where
  pub front : List ℕ
  pub factor_is : factor t.multiplier.now ≡ r_of key
  pub text_is : m ≡ front ++ left
  pub whole : length front % 16 ≡ 0
  pub sum_is : pair t.sum.low t.sum.high % prime ≡ block_sum (r_of key) front (length front / 16) % prime

-- the text may grow while some of it is left
pub text_grows : {M : Type 0} (factor : M → ℕ) (t : PartialSum M) (left more key m : List ℕ)
    → PartialSumHolds factor t left key m → PartialSumHolds factor t (left ++ more) key (m ++ more)
text_grows factor t left more key m h = record {
  front = h.front;
  factor_is = h.factor_is;
  text_is = ap (λ x. x ++ more) h.text_is ∙ append_assoc h.front left more;
  whole = h.whole;
  sum_is = h.sum_is;
}
