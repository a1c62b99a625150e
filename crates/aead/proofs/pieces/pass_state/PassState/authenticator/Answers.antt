use Rattle.std.proofs.Common.{ℕ, ◌++◌, sym, subst}
use Rattle.octets.specs.Bytes.{pad16}
use Rattle.aead.specs.Suites.{construction_of}
use Rattle.aead.specs.PassStates.{IsSumOf}
use Rattle.aead.proofs.pieces.pass_state.PassState.authenticator.Goals as goal

pub returns-clause-holds : goal.returns-clause-holds
returns-clause-holds g c = λ s bytes serves t.
    let n = c.args.self.now in
    let m = pad16 s.aad ++ bytes in
    let sum = subst (λ (x : ℕ). IsSumOf (construction_of s.suite) x n.high s m) (sym c.low.ensures) t.sum_is in
    record {
      hashed = c.resumed.ensures s m serves t.secret_is sum t.rest_is;
      aad_length_is = t.aad_length_is;
      length_is = t.length_is;
      fits = t.fits;
    }
