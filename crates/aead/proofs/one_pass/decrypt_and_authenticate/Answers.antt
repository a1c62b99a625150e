use Rattle.std.proofs.Common.{◌∙◌, [], sym, refl, arith, true≢false}
use Rattle.aead.specs.Sealing.{Setting, Fits}
use Rattle.aead.specs.Ciphers.{setting}
use Rattle.aead.proofs.Opens.{no_sealing, opened_as, body_tag}
use Rattle.aead.proofs.one_pass.decrypt_and_authenticate.Goals as goal

pub returns-then-same-clause-opened : goal.returns-then-same-clause-opened
returns-then-same-clause-opened g c =
    let s : Setting = setting (g.N.OnePass.keyed c.args.message.now) (g.N.OnePass.nonce c.args.message.now)
    c.args.aad.now in
    let fits : Fits s c.args.body.now =
    record { aad_fits = c.requires.aad_fits; text_fits = c.requires.text_fits } in
    let mask = c.mask-mask.ensures c.args.aad.now c.args.tag.now in
    let hash = rw (sym c.empty-authenticator.ensures.0) at (c.hash.ensures c.args.aad.now) in
    let none = c.begin.ensures.holds s refl c.requires.aad_fits hash in
    let fed = c.step.ensures.step s c.args.tag.now [] mask none (omega (arith, c.requires.text_fits)) in
    opened_as s c.args.body.now c.args.tag.now c.step.new.piece fits (λ i. (c.type_inv.body i).fits) fed.2
    (body_tag s c.args.tag.now c.args.body.now (g.met.N.OnePass.one_pass c.args.message.now)
    ∙ sym (c.tag.ensures c.args.aad.now c.args.body.now (c.digest.ensures.digest s c.args.body.now fed.1)) ∙ sym c.bytes.ensures.value
    ∙ c.same.ensures.0 c.if-same.true ∙ c.bytes-given.ensures.value)

pub returns-clause-opened : goal.returns-clause-opened
returns-clause-opened g c =
    let s : Setting = setting (g.N.OnePass.keyed c.args.message.now) (g.N.OnePass.nonce c.args.message.now)
    c.args.aad.now in
    let mask = c.mask-mask.ensures c.args.aad.now c.args.tag.now in
    let hash = rw (sym c.empty-authenticator.ensures.0) at (c.hash.ensures c.args.aad.now) in
    let none = c.begin.ensures.holds s refl c.requires.aad_fits hash in
    let fed = c.step.ensures.step s c.args.tag.now [] mask none (omega (arith, c.requires.text_fits)) in (
      c.requires.aad_fits,
      (
        c.requires.text_fits,
        no_sealing s c.args.body.now c.args.tag.now c.bytes-given.ensures.are_bytes.length_is
            (λ e. true≢false
            (sym (c.same.ensures.1
            (c.bytes.ensures.value ∙ c.tag.ensures c.args.aad.now c.args.body.now (c.digest.ensures.digest s c.args.body.now fed.1)
            ∙ sym (body_tag s c.args.tag.now c.args.body.now (g.met.N.OnePass.one_pass c.args.message.now))
            ∙ e ∙ sym c.bytes-given.ensures.value))
            ∙ c.if-same.false)),
      ),
    )

pub returns-then-same-clause-masked : goal.returns-then-same-clause-masked
returns-then-same-clause-masked g c =
    let s : Setting = setting (g.N.OnePass.keyed c.args.message.now) (g.N.OnePass.nonce c.args.message.now)
    c.args.aad.now in
    let mask = c.mask-mask.ensures c.args.aad.now c.args.tag.now in
    let hash = rw (sym c.empty-authenticator.ensures.0) at (c.hash.ensures c.args.aad.now) in
    let none = c.begin.ensures.holds s refl c.requires.aad_fits hash in
    (c.step.ensures.step s c.args.tag.now [] mask none (omega (arith, c.requires.text_fits))).2

pub returns-clause-masked : goal.returns-clause-masked
returns-clause-masked g c =
    let s : Setting = setting (g.N.OnePass.keyed c.args.message.now) (g.N.OnePass.nonce c.args.message.now)
    c.args.aad.now in
    let mask = c.mask-mask.ensures c.args.aad.now c.args.tag.now in
    let hash = rw (sym c.empty-authenticator.ensures.0) at (c.hash.ensures c.args.aad.now) in
    let none = c.begin.ensures.holds s refl c.requires.aad_fits hash in
    (c.step.ensures.step s c.args.tag.now [] mask none (omega (arith, c.requires.text_fits))).2
