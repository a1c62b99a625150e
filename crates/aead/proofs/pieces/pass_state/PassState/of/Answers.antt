use Rattle.std.proofs.Common.{◌≡◌, ℕ, ◌+◌, ◌*◌, ◌/◌, ◌%◌, ◌^◌, ◌++◌, ◌∙◌, ap, subst, arith, length, length-append, drop}
use Rattle.std.proofs.Common.{replicate}
use Rattle.std.proofs.lemmas.List.{length-drop, drop-replicate}
use Rattle.std.proofs.lemmas.Slice.{take-put_mid, drop-put_mid}
use Rattle.octets.specs.Bytes.{pad16}
use Rattle.octets.proofs.Texts.{whole_padded}
use Rattle.aead.specs.Suites.{construction_of}
use Rattle.aead.specs.PassStates.{IsSumOf}
use Rattle.aead.proofs.pieces.pass_state.PassState.of.Goals as goal

pub returns-clause-holds : goal.returns-clause-holds
returns-clause-holds g c = λ s bytes keyed held.
    let m = pad16 s.aad ++ bytes in
    let low : ℕ = c.sum-low.result.0 in
    let whole : low ≡ low % 2 ^ 64 + low / 2 ^ 64 * 2 ^ 64 = omega arith in
    let last = c.rest-last.result.now in
    let after = c.copy_from_slice.ensures.after in
    let rest_is : last ≡ drop (length m / 16 * 16) m = c.rest-last.ensures.value s m held.hashed in
    let used : c.args.authenticator.now.length % 16 ≡ length last =
    omega (
      arith,
      held.length_is,
      whole_padded s.aad,
      length-append (pad16 s.aad) bytes,
      ap length rest_is,
      length-drop (length m / 16 * 16) m,
    ) in
    record {
      secret_is = keyed;
      sum_is = subst (λ (x : ℕ). IsSumOf (construction_of s.suite) x c.sum-low.result.1 s m) whole
          (c.sum-low.ensures s m held.hashed);
      rest_is = take-put_mid 0 (length last) (replicate 16 0) c.copy_from_slice.new.self (c.args.authenticator.now.length % 16)
          (omega (arith, used, ap length after)) (omega arith) ∙ after ∙ rest_is;
      padded = drop-put_mid 0 (length last) (replicate 16 0) c.copy_from_slice.new.self (c.args.authenticator.now.length % 16)
          (omega (arith, used)) (omega arith) (omega (arith, ap length after))
          ∙ drop-replicate (c.args.authenticator.now.length % 16) 16 0;
      aad_length_is = held.aad_length_is;
      length_is = held.length_is;
      fits = held.fits;
    }
