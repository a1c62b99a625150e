use Rattle.std.proofs.Common.{ℕ, List, ap, sym, subst, ◌∙◌}
use Rattle.aes.specs.Code.Streams.{Holds, KnowsCipher}
use Rattle.aead.specs.KeyedPasses.{cipher_key}
use Rattle.aead.specs.Code.States.{MadeByCounter, first_counter}
use Rattle.aead.proofs.pieces.aes_pass.mask_expanded.Goals as goal

pub returns-clause-masks : goal.returns-clause-masks
returns-clause-masks g c = λ s fed by keys nonce long fits h knows.
    let first = c.first_counter-first.ensures ∙ ap (λ (n : List ℕ). first_counter g.R.Count.MaskCount.by n c.args.tag.now) nonce in
    let holds = subst (λ (b : List ℕ). Holds g.R.Count.Count.up c.at_known-mask.result (cipher_key g.R.Count.MaskCount.by s) b c.args.state.now.length) first
    (subst (λ (k : List ℕ). Holds g.R.Count.Count.up c.at_known-mask.result k c.first_counter-first.result c.args.state.now.length) keys.0
    (c.at_known-mask.ensures (subst (KnowsCipher c.args.known.now) (sym keys.0) knows))) in
    let made : MadeByCounter g.R.Count.MaskCount.by g.R.Count.Count.up c.at_known-mask.result s c.args.tag.now c.args.state.now.length =
    (by, holds) in
    let serves = rw (sym c.by.ensures) at keys.1 in
    let m = c.step.ensures.masks s c.args.tag.now fed (by, serves) made long fits h in
    let mask = c.step.ensures.mask s c.args.tag.now fed (by, serves) made long fits h in
    (m.0, m.1, c.set_known.ensures _ _ _ mask.1 knows)
