use Rattle.std.proofs.Common.{◌≡◌, ℕ, List, [], ◌+◌, ◌*◌, ◌/◌, ◌^◌, ◌++◌, length, subst, sym, ap, arith, refl}
use Rattle.std.proofs.lemmas.List.{append-nil, drop_all}
use Rattle.octets.specs.Bytes.{pad16}
use Rattle.octets.proofs.Texts.{whole_padded}
use Rattle.aead.specs.Suites.{construction_of}
use Rattle.aead.specs.PassStates.{IsSumOf}
use Rattle.aead.proofs.pieces.pass_state.PassState.restarted.Goals as goal

pub returns-clause-holds : goal.returns-clause-holds
returns-clause-holds c = λ s bytes h start.
    let n = c.args.start in
    let none : pad16 s.aad ++ [] ≡ pad16 s.aad = append-nil (pad16 s.aad) in
    let whole : length (pad16 s.aad ++ []) / 16 * 16 ≡ length (pad16 s.aad ++ []) =
    omega (arith, ap length none, whole_padded s.aad) in
    record {
      secret_is = h.secret_is;
      sum_is = subst (λ (m : List ℕ). IsSumOf (construction_of s.suite) (n.low + n.middle * 2 ^ 64) n.high s m) (sym none)
          start;
      rest_is = sym (drop_all _ (pad16 s.aad ++ []) (omega (arith, whole)));
      padded = refl;
      aad_length_is = h.aad_length_is;
      length_is = refl;
      fits = record { aad_fits = h.fits.aad_fits; text_fits = omega arith };
    }
