use Rattle.std.proofs.Common.{◌<◌, length, refl, ap, ◌∙◌, arith}
use Rattle.aes.specs.Cipher.{cipher}
use Rattle.aead.specs.Sealing.{Setting}
use Rattle.aead.specs.KeyedPasses.{setting_of}
use Rattle.aead.specs.Code.GcmStarts.{IsStart}
use Rattle.aead.proofs.gcm.open_short.Goals as goal

pub returns-then-body-le16 : goal.returns-then-body-le16
returns-then-body-le16 g c = λ suite by multiplier fits.
    let s : Setting = setting_of suite c.args.key.now c.args.nonce.now c.args.aad.now in
    let is : IsStart c.encrypt_two-start.result s (length c.args.body.now) = record {
      by_gcm = by;
      nonce_length = c.two_blocks.ensures.nonce_length;
      long = omega arith;
      blocks = λ q l.
          let within : q < 2 = omega (arith, l, c.if-body-le16.true) in
          c.encrypt_two-start.ensures q within ∙ ap (cipher c.args.key.now) (c.two_blocks.ensures.blocks q within);
    } in
    c.open_from.ensures s is multiplier refl fits

pub returns : goal.returns
returns g c = λ suite by multiplier fits.
    let s : Setting = setting_of suite c.args.key.now c.args.nonce.now c.args.aad.now in
    let is : IsStart c.encrypt_four-start.result s (length c.args.body.now) = record {
      by_gcm = by;
      nonce_length = c.four_blocks.ensures.nonce_length;
      long = omega arith;
      blocks = λ q l.
          let within : q < 4 = omega (arith, l, c.requires) in
          c.encrypt_four-start.ensures q within ∙ ap (cipher c.args.key.now) (c.four_blocks.ensures.blocks q within);
    } in
    c.open_from-2.ensures s is multiplier refl fits
