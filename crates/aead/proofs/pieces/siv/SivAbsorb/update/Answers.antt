use Rattle.std.proofs.Common.{ap}
use Rattle.std.proofs.lemmas.Result.{MatchResult-weaker, on_err_weaker}
use Rattle.aead.specs.declared.pieces.two_pass_state.TwoPassState.{TwoPassState}
use Rattle.aead.specs.declared.pieces.siv.SivAbsorb.{SivAbsorb}
use Rattle.aead.proofs.pieces.siv.SivAbsorb.update.Goals as goal

pub returns-clause-answer : goal.returns-clause-answer
returns-clause-answer c = λ s text h.
    MatchResult-weaker c.absorb.result (c.absorb.ensures.answer s text (c.keys.ensures.keys s h.keys) h.state)
    (λ _ m. (record { keys = h.keys; state = m.0 }, m.1)) (λ _ e. e)

pub returns-clause-kept : goal.returns-clause-kept
returns-clause-kept c =
    let whole : TwoPassState → SivAbsorb = λ n. record { keys = c.args.self.now.keys; state = n } in
    on_err_weaker c.absorb.result (λ e. ap whole e) c.absorb.ensures.kept

pub returns-clause-fault : goal.returns-clause-fault
returns-clause-fault c = MatchResult-weaker c.absorb.result c.absorb.ensures.fault (λ _ _. tt) (λ _ e. e.0)
