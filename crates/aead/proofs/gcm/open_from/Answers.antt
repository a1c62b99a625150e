use Rattle.std.proofs.Common.{◌≡◌, ℕ, ◌+◌, ◌-◌, List, length, ap, refl, sym, ◌∙◌, arith, true≢false}
use Rattle.aead.specs.Suites.{is_one_pass}
use Rattle.aead.specs.Sealing.{tag_of}
use Rattle.aead.proofs.GcmStarts.{start_masks_text}
use Rattle.aead.proofs.Opens.{unmasked, no_sealing, opened_as, body_tag}
use Rattle.aead.proofs.gcm.open_from.Goals as goal

pub returns-then-not-same : goal.returns-then-not-same
returns-then-not-same g c = λ s is by_key aad fits.
    let body : List ℕ = c.args.body.now in
    let tag : List ℕ = c.args.tag.now in
    let tag_is : c.bytes.result.now ≡ tag_of s (unmasked s tag body) =
    c.bytes.ensures.value ∙ c.short_tag.ensures s is by_key aad fits ∙ sym (body_tag s tag body (ap is_one_pass is.by_gcm)) in (
      (
        fits.aad_fits,
        (
          fits.text_fits,
          no_sealing s body tag c.bytes-given.ensures.are_bytes.length_is
              (λ e. true≢false (sym (c.same.ensures.1 (tag_is ∙ e ∙ sym c.bytes-given.ensures.value))
              ∙ c.if-not-same.true)),
        ),
      ),
      refl {a = body},
    )

pub returns : goal.returns
returns g c = λ s is by_key aad fits.
    let body : List ℕ = c.args.body.now in
    let tag : List ℕ = c.args.tag.now in
    opened_as s body tag c.xor_into.new.dst fits (λ i. (c.type_inv.body i).fits)
    (c.xor_into.ensures ∙ start_masks_text c.args.start.now s tag body (16 + length body - 16) is (omega arith))
    (body_tag s tag body (ap is_one_pass is.by_gcm) ∙ sym (c.short_tag.ensures s is by_key aad fits) ∙ sym c.bytes.ensures.value
    ∙ c.same.ensures.0 c.if-not-same.false ∙ c.bytes-given.ensures.value)
