use Rattle.std.proofs.Common.{◌≡◌, ◌∙◌, ap, arith, length}
use Rattle.octets.specs.Masked.{masked}
use Rattle.octets.proofs.Masks.{masked_twice}
use Rattle.aead.specs.Sealing.{Setting, mask_of}
use Rattle.aead.specs.Ciphers.{setting}
use Rattle.aead.proofs.one_pass.open_and_restore.Goals as goal

pub returns-in-Err : goal.returns-in-Err
returns-in-Err g c =
    let s : Setting = setting (g.N.OnePass.keyed c.args.message.now) (g.N.OnePass.nonce c.args.message.now)
    c.args.aad.now in
    let tag = c.args.tag.now in
    let body = c.args.body.now in
    let f = mask_of s tag in
    let size : length c.decrypt_and_authenticate.new.body ≡ length body = c.decrypt_and_authenticate.auto.body in (
      c.in-Err.ensures.opened,
      (c.apply_to.ensures s tag 0 (c.mask.ensures c.args.aad.now tag) (omega (arith, size, c.requires.text_fits))).1
          ∙ ap (masked f 0) c.in-Err.ensures.masked ∙ masked_twice f 0 body,
    )
