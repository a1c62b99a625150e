use Rattle.std.proofs.Common.{ℕ, List, [], refl, sym, subst, arith, ap}
use Rattle.std.proofs.lemmas.Grind.{merely}
use Rattle.gf128.specs.Orders.{Reversed, Serves}
use Rattle.gf128.specs.Polyval.{IsReversedMulX}
use Rattle.gf128.specs.Code.States.{key_of}
use Rattle.aead.specs.Suites.{ByGcmSiv, is_one_pass}
use Rattle.aead.specs.Sealing.{Setting, Fits, authentication_key}
use Rattle.aead.specs.Ciphers.{setting}
use Rattle.aead.specs.Code.States.{HeldByBlocks}
use Rattle.aead.proofs.Opens.{seals_two_pass}
use Rattle.aead.proofs.gcm_siv.GcmSivAead.seal_fitting.Goals as goal

pub returns : goal.returns
returns c =
    let s : Setting = setting c.args.self.now c.args.nonce.now c.args.aad.now in
    let fits : Fits s c.args.text.now =
    record { aad_fits = c.requires.aad_fits; text_fits = c.requires.text_fits } in
    let by = c.derive-keys.ensures.by in
    let auth = authentication_key s.key s.nonce in
    let serves : Serves Reversed auth (key_of c.of-multiplier.result) = (
      c.derive-keys.ensures.block,
      subst (λ (k : List ℕ). IsReversedMulX auth k) (sym c.of-multiplier.ensures) c.derive-keys.ensures.multiplier_key,
    ) in
    let held : HeldByBlocks ByGcmSiv Reversed (λ m. key_of m.now) c.with.result s [] =
    (by, merely (c.with.ensures auth serves)) in
    let hash = rw (sym c.empty-authenticator.ensures.0) at held in
    let begun = c.begin.ensures.holds s refl c.requires.aad_fits hash in
    let taken = c.update.ensures.holds s [] begun (omega (arith, fits.text_fits)) in
    seals_two_pass s c.args.text.now c.apply_to.new.piece c.encrypted_tag-tag.result
    (ap is_one_pass by) fits c.update.ensures.bytes
    (c.encrypted_tag-tag.ensures s c.args.text.now by c.derive-keys.ensures.encryption refl
    (c.digest.ensures.digest s c.args.text.now taken))
    (c.apply_to.ensures s c.encrypted_tag-tag.result 0 (c.mask_of_tag.ensures s by c.derive-keys.ensures.encryption)
    (omega (arith, fits.text_fits))).1
