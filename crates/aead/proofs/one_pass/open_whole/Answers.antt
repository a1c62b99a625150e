use Rattle.std.proofs.Common.{◌≡◌, ◌∙◌, [], arith, sym, refl, true≢false}
use Rattle.aead.specs.Sealing.{Setting, Fits, tag_of}
use Rattle.aead.specs.Ciphers.{setting}
use Rattle.aead.proofs.Opens.{unmasked, no_sealing, opened_as, body_tag}
use Rattle.aead.proofs.one_pass.open_whole.Goals as goal

pub returns-then-not-same : goal.returns-then-not-same
returns-then-not-same g c =
    let s : Setting = setting (g.N.OnePass.keyed c.args.message.now) (g.N.OnePass.nonce c.args.message.now)
    c.args.aad.now in
    let hash = rw (sym c.empty-authenticator.ensures.0) at (c.hash.ensures c.args.aad.now) in
    let begun = c.begin.ensures.holds s refl c.requires.aad_fits hash in
    let taken = c.update.ensures.holds s [] begun (omega (arith, c.requires.text_fits)) in
    let tag_is : c.bytes.result.now ≡ tag_of s (unmasked s c.args.tag.now c.args.body.now) =
    c.bytes.ensures.value ∙ c.tag.ensures c.args.aad.now c.args.body.now (c.digest.ensures.digest s c.args.body.now taken)
    ∙ sym (body_tag s c.args.tag.now c.args.body.now (g.met.N.OnePass.one_pass c.args.message.now)) in (
      (
        c.requires.aad_fits,
        (
          c.requires.text_fits,
          no_sealing s c.args.body.now c.args.tag.now c.bytes-given.ensures.are_bytes.length_is
              (λ e. true≢false (sym (c.same.ensures.1 (tag_is ∙ e ∙ sym c.bytes-given.ensures.value))
              ∙ c.if-not-same.true)),
        ),
      ),
      refl {a = c.args.body.now},
    )

pub returns : goal.returns
returns g c =
    let s : Setting = setting (g.N.OnePass.keyed c.args.message.now) (g.N.OnePass.nonce c.args.message.now)
    c.args.aad.now in
    let fits : Fits s c.args.body.now =
    record { aad_fits = c.requires.aad_fits; text_fits = c.requires.text_fits } in
    let hash = rw (sym c.empty-authenticator.ensures.0) at (c.hash.ensures c.args.aad.now) in
    let begun = c.begin.ensures.holds s refl c.requires.aad_fits hash in
    let taken = c.update.ensures.holds s [] begun (omega (arith, fits.text_fits)) in
    let made = c.mask.ensures c.args.aad.now c.args.tag.now in
    opened_as s c.args.body.now c.args.tag.now c.apply_to.new.piece fits (λ i. (c.type_inv.body i).fits)
    (c.apply_to.ensures s c.args.tag.now 0 made (omega (arith, fits.text_fits))).1
    (body_tag s c.args.tag.now c.args.body.now (g.met.N.OnePass.one_pass c.args.message.now)
    ∙ sym (c.tag.ensures c.args.aad.now c.args.body.now (c.digest.ensures.digest s c.args.body.now taken)) ∙ sym c.bytes.ensures.value
    ∙ c.same.ensures.0 c.if-not-same.false ∙ c.bytes-given.ensures.value)
