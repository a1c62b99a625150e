use Rattle.std.proofs.Common.{ap, ap₂, sym}
use Rattle.std.proofs.lemmas.Result.{MatchResult-weaker, on_err_weaker}
use Rattle.aes.specs.declared.counter.KnownBlock.{KnownBlock}
use Rattle.aead.specs.Suites.{text_limit_by}
use Rattle.aead.specs.declared.pieces.two_pass_state.TwoPassState.{TwoPassState}
use Rattle.aead.specs.declared.pieces.siv.SivWriter.{SivWriter}
use Rattle.aead.proofs.pieces.siv.SivWriter.update.Goals as goal

pub returns-clause-answer : goal.returns-clause-answer
returns-clause-answer c = λ s first text h.
    MatchResult-weaker c.write.result (c.write.ensures.answer s first text (c.keys.ensures.keys s h.keys) h.state h.known)
    (λ _ m. (record { keys = h.keys; state = m.0; known = m.3 }, m.1, m.2)) (λ _ e. e)

pub returns-clause-kept : goal.returns-clause-kept
returns-clause-kept c =
    let whole : TwoPassState → KnownBlock → SivWriter = λ n b. record { keys = c.args.self.now.keys; state = n; known = b } in
    on_err_weaker c.write.result (λ e. (ap₂ whole e.0 e.2, e.1)) c.write.ensures.kept

pub returns-clause-fault : goal.returns-clause-fault
returns-clause-fault c = rw (sym (ap text_limit_by c.keys.ensures.by)) c.write.ensures.fault
