use Rattle.std.proofs.Common.{ap, ap₂, sym}
use Rattle.std.proofs.lemmas.Result.{MatchResult-weaker, on_err_weaker}
use Rattle.aes.specs.declared.counter.KnownBlock.{KnownBlock}
use Rattle.aead.specs.Suites.{text_limit_by}
use Rattle.aead.specs.declared.pieces.two_pass_state.TwoPassState.{TwoPassState}
use Rattle.aead.specs.declared.pieces.opener.OpenWriter.{OpenWriter}
use Rattle.aead.proofs.pieces.opener.OpenWriter.update.Goals as goal

pub returns-clause-answer : goal.returns-clause-answer
returns-clause-answer c = λ s tag first body h.
    MatchResult-weaker c.open.result
    (c.open.ensures.answer s tag first body (c.keys.ensures.keys s h.keys) h.bytes h.state h.known)
    (λ _ m. (record { keys = h.keys; bytes = h.bytes; state = m.0; known = m.4 }, m.1, m.2, m.3)) (λ _ e. e)

pub returns-clause-kept : goal.returns-clause-kept
returns-clause-kept c =
    let whole : TwoPassState → KnownBlock → OpenWriter = λ n b. record { keys = c.args.self.now.keys; state = n; known = b } in
    on_err_weaker c.open.result (λ e. (ap₂ whole e.0 e.2, e.1)) c.open.ensures.kept

pub returns-clause-fault : goal.returns-clause-fault
returns-clause-fault c = rw (sym (ap text_limit_by c.keys.ensures.by)) c.open.ensures.fault
