use Rattle.std.proofs.Common.{ℕ, List, sym, subst, ◌∙◌}
use Rattle.gf128.specs.Orders.{Serves}
use Rattle.aead.specs.Suites.{Construction}
use Rattle.aead.specs.PassStates.{IsMessageSecret}
use Rattle.aead.specs.Code.States.{block_key}
use Rattle.aead.proofs.pieces.aes_pass.digest_anew.Goals as goal

pub returns : goal.returns
returns g c = λ s bytes by h.
    let hash = subst (λ (x : Construction). IsMessageSecret x c.args.state.now.message_secret s) by h.secret_is in
    let serves = subst (λ (k : List ℕ). Serves g.R.HashOrder.order (block_key g.R.Count.MaskCount.by s) k)
    (sym (c.of-multiplier.ensures ∙ c.multiplier_key.ensures)) (g.met.R.Rule.serves s c.args.state.now.message_secret hash) in
    c.digest.ensures s bytes (by, rw (sym c.by.ensures) at serves) h
