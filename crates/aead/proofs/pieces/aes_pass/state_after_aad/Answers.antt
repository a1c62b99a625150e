use Rattle.std.proofs.Common.{ℕ, List, sym, subst, ◌∙◌}
use Rattle.gf128.specs.Orders.{Serves}
use Rattle.aead.specs.Suites.{Construction}
use Rattle.aead.specs.PassStates.{IsMessageSecret}
use Rattle.aead.specs.Code.States.{block_key}
use Rattle.aead.proofs.pieces.aes_pass.state_after_aad.Goals as goal

pub returns : goal.returns
returns g c = λ s by keyed aad fits.
    let held = subst (λ (x : Construction). IsMessageSecret x c.args.secret s) (sym by) keyed in
    let serves = subst (λ (k : List ℕ). Serves g.R.HashOrder.order (block_key g.R.Count.MaskCount.by s) k)
    (sym (c.of-multiplier.ensures ∙ c.first_block.ensures)) (g.met.R.Rule.serves s c.args.secret keyed) in
    c.initial.ensures s (by, rw (sym c.by.ensures) at serves) held aad fits
