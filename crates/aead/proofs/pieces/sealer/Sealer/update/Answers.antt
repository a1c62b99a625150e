use Rattle.std.proofs.Common.{ap₂}
use Rattle.std.proofs.lemmas.Result.{MatchResult-weaker, on_err_weaker}
use Rattle.aes.specs.declared.counter.KnownBlock.{KnownBlock}
use Rattle.aead.specs.declared.pieces.pass_state.PassState.{PassState}
use Rattle.aead.specs.declared.pieces.sealer.Sealer.{Sealer}
use Rattle.aead.proofs.pieces.sealer.Sealer.update.Goals as goal

pub returns-clause-answer : goal.returns-clause-answer
returns-clause-answer c = λ s text h.
    MatchResult-weaker c.seal.result (c.seal.ensures.answer s text h.keys h.one_pass h.state h.known)
    (λ _ m. (record { keys = h.keys; one_pass = h.one_pass; state = m.0; known = m.3 }, m.1, m.2)) (λ _ e. e)

pub returns-clause-kept : goal.returns-clause-kept
returns-clause-kept c =
    let whole : PassState → KnownBlock → Sealer = λ n b. record { keys = c.args.self.now.keys; state = n; known = b } in
    on_err_weaker c.seal.result (λ e. (ap₂ whole e.0 e.2, e.1)) c.seal.ensures.kept

pub returns-clause-fault : goal.returns-clause-fault
returns-clause-fault c = MatchResult-weaker c.seal.result c.seal.ensures.fault (λ _ _. tt) (λ _ e. e.0)
