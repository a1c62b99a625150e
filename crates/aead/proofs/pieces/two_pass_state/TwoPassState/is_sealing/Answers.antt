use Rattle.std.proofs.Common.{◌≡◌, ◌∙◌, refl, sym, true≢false}
use Rattle.aead.specs.Sealing.{mask_of, tag_of}
use Rattle.aead.proofs.ByteMasks.{masked_small}
use Rattle.aead.proofs.KeyedPasses.{tag_authenticated}
use Rattle.aead.proofs.TakenIn.{taken_fits}
use Rattle.aead.proofs.Opens.{unmasked, no_sealing, opened_as}
use Rattle.aead.proofs.pieces.two_pass_state.TwoPassState.is_sealing.Goals as goal

pub returns-clause-sealing : goal.returns-clause-sealing
returns-clause-sealing c = λ s tag body k bytes n done.
    let equal : tag_of s (unmasked s tag body) ≡ tag =
    sym (c.tag.ensures s _ k n.pass ∙ tag_authenticated s tag body) ∙ sym c.bytes.ensures.value
    ∙ c.same.ensures.0 done ∙ n.tag_is in
    opened_as s body tag (unmasked s tag body) (taken_fits _ s tag body n.pass)
    (masked_small (mask_of s tag) 0 body n.small (bytes tag)) refl equal

pub returns-clause-none : goal.returns-clause-none
returns-clause-none c = λ s tag body k bytes n done.
    no_sealing s body tag n.tag_long (λ e.
    let equal : c.bytes.result.now ≡ c.args.self.now.tag =
    c.bytes.ensures.value ∙ c.tag.ensures s _ k n.pass ∙ tag_authenticated s tag body ∙ e ∙ sym n.tag_is in
    true≢false (sym (c.same.ensures.1 equal) ∙ done))
