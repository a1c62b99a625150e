use Rattle.std.proofs.Common.{◌≡◌, ℕ, List, [], ◌*◌, ◌/◌, ◌++◌, length, drop, refl, sym, ap, subst, arith}
use Rattle.std.proofs.lemmas.List.{nil_from_length}
use Rattle.octets.specs.Bytes.{pad16}
use Rattle.aead.specs.Suites.{construction_of}
use Rattle.aead.specs.PassStates.{IsSumOf}
use Rattle.aead.proofs.PassStates.{no_sum}
use Rattle.aead.proofs.pieces.pass_state.PassState.empty.Goals as goal

pub returns : goal.returns
returns c = λ s keyed none.
    let nothing : pad16 s.aad ++ [] ≡ [] = ap (λ (m : List ℕ). pad16 m ++ []) (nil_from_length s.aad none) in
    record {
      secret_is = keyed;
      sum_is = subst (λ (m : List ℕ). IsSumOf (construction_of s.suite) 0 0 s m) (sym nothing)
          (no_sum (construction_of s.suite) s);
      rest_is = ap (λ (m : List ℕ). drop (length m / 16 * 16) m) (sym nothing);
      padded = refl;
      aad_length_is = sym none;
      length_is = refl;
      fits = record { aad_fits = omega (arith, none); text_fits = omega arith };
    }
