use Rattle.aead.proofs.pieces.pass_state.PassState.digest.Goals as goal

pub returns : goal.returns
returns g c = λ s bytes serves h. c.finish.ensures s _ (c.authenticator.ensures.holds s _ serves h)
