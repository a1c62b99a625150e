use Rattle.std.proofs.Common.{ℕ, List, ◌+◌, ◌*◌, ◌^◌, subst}
use Rattle.std.proofs.lemmas.List.{append-nil}
use Rattle.octets.specs.Bytes.{pad16}
use Rattle.aead.specs.Suites.{construction_of}
use Rattle.aead.specs.PassStates.{IsSumOf}
use Rattle.aead.proofs.pieces.pass_state.PassState.sum.Goals as goal

pub returns : goal.returns
returns c = λ s h.
    let n = c.args.self.now in
    subst (λ (m : List ℕ). IsSumOf (construction_of s.suite) (n.low + n.middle * 2 ^ 64) n.high s m)
    (append-nil (pad16 s.aad)) h.sum_is
