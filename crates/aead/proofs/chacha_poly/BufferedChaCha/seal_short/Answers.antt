use Rattle.std.proofs.Common.{◌+◌, ◌-◌, ◌∙◌, [], length, ap, refl, arith}
use Rattle.aead.specs.Sealing.{Setting, Fits, tag_over}
use Rattle.aead.specs.Ciphers.{setting}
use Rattle.aead.specs.declared.suite.Suite.TheVariants.{ChaCha20Poly1305}
use Rattle.aead.proofs.KeyStreamStart.{start_masks_text}
use Rattle.aead.proofs.Opens.{seals_one_pass}
use Rattle.aead.proofs.chacha_poly.BufferedChaCha.seal_short.Goals as goal

pub returns : goal.returns
returns c =
    let m = c.args.self.now in
    let text = c.args.text.now in
    let s : Setting = setting (record { suite = ChaCha20Poly1305; key = m.key.now }) m.nonce.now c.args.aad.now in
    let fits : Fits s text = record { aad_fits = c.requires.aad_fits; text_fits = c.requires.text_fits } in
    let out_is = c.xor_into.ensures
    ∙ start_masks_text m.start.now s [] text (64 + length text - 64) refl m.start_is c.requires.covers (omega arith) in
    seals_one_pass s [] text c.xor_into.new.dst c.tag_over.result refl fits c.tells_bytes.ensures.bytes out_is
    (c.tag_over.ensures ∙ ap (tag_over s.suite s.key s.nonce s.aad) out_is)
