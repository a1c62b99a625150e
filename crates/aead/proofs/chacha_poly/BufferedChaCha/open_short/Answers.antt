use Rattle.std.proofs.Common.{◌≡◌, ◌+◌, ◌-◌, ◌∙◌, length, refl, sym, arith, true≢false}
use Rattle.aead.specs.Sealing.{Setting, Fits, tag_of}
use Rattle.aead.specs.Ciphers.{setting}
use Rattle.aead.specs.declared.suite.Suite.TheVariants.{ChaCha20Poly1305}
use Rattle.aead.proofs.KeyStreamStart.{start_masks_text}
use Rattle.aead.proofs.Opens.{unmasked, no_sealing, opened_as, body_tag}
use Rattle.aead.proofs.chacha_poly.BufferedChaCha.open_short.Goals as goal

pub returns-then-not-same : goal.returns-then-not-same
returns-then-not-same c =
    let m = c.args.self.now in
    let body = c.args.body.now in
    let tag = c.args.tag.now in
    let s : Setting = setting (record { suite = ChaCha20Poly1305; key = m.key.now }) m.nonce.now c.args.aad.now in
    let tag_is : c.bytes.result.now ≡ tag_of s (unmasked s tag body) =
    c.bytes.ensures.value ∙ c.tag_over.ensures ∙ sym (body_tag s tag body refl) in (
      (
        c.requires.aad_fits,
        (
          c.requires.text_fits,
          no_sealing s body tag c.bytes-given.ensures.are_bytes.length_is
              (λ e. true≢false (sym (c.same.ensures.1 (tag_is ∙ e ∙ sym c.bytes-given.ensures.value))
              ∙ c.if-not-same.true)),
        ),
      ),
      refl {a = body},
    )

pub returns : goal.returns
returns c =
    let m = c.args.self.now in
    let body = c.args.body.now in
    let tag = c.args.tag.now in
    let s : Setting = setting (record { suite = ChaCha20Poly1305; key = m.key.now }) m.nonce.now c.args.aad.now in
    let fits : Fits s body = record { aad_fits = c.requires.aad_fits; text_fits = c.requires.text_fits } in
    opened_as s body tag c.xor_into.new.dst fits (λ i. (c.type_inv.body i).fits)
    (c.xor_into.ensures ∙ start_masks_text m.start.now s tag body (64 + length body - 64) refl m.start_is c.requires.covers (omega arith))
    (body_tag s tag body refl ∙ sym c.tag_over.ensures ∙ sym c.bytes.ensures.value
    ∙ c.same.ensures.0 c.if-not-same.false ∙ c.bytes-given.ensures.value)
