use Rattle.std.proofs.Common.{ℕ, List, ap, sym, subst, ◌∙◌}
use Rattle.aes.specs.Code.Streams.{Holds}
use Rattle.aead.specs.KeyedPasses.{cipher_key}
use Rattle.aead.specs.Code.States.{MadeByCounter, first_counter}
use Rattle.aead.proofs.pieces.aes_pass.take_text_in_planes.Goals as goal

pub returns : goal.returns
returns g c = λ s fed by key serves nonce.
    let first = c.first_counter-first.ensures ∙ ap (λ (n : List ℕ). first_counter g.R.Count.MaskCount.by n c.args.tag.now) nonce in
    let holds = subst (λ (b : List ℕ). Holds g.R.Count.Count.up c.in_planes-mask.result (cipher_key g.R.Count.MaskCount.by s) b c.args.state.now.length) first
    (subst (λ (k : List ℕ). Holds g.R.Count.Count.up c.in_planes-mask.result k c.first_counter-first.result c.args.state.now.length) key
    c.in_planes-mask.ensures) in
    let made : MadeByCounter g.R.Count.MaskCount.by g.R.Count.Count.up c.in_planes-mask.result s c.args.tag.now c.args.state.now.length =
    (by, holds) in
    let lent = rw (sym c.by.ensures) at serves in
    c.take_text.ensures.takes s c.args.tag.now fed (by, lent) made
