use Rattle.std.proofs.Common.{refl, ◌≡◌, ◌∙◌, ◌≤◌, ℕ, List, [], length, subst, arith, sym, ap, true≢false}
use Rattle.std.proofs.lemmas.Grind.{merely}
use Rattle.octets.specs.Masked.{masked}
use Rattle.octets.proofs.Masks.{length-masked, masked_twice}
use Rattle.gf128.specs.Orders.{Reversed, Serves}
use Rattle.gf128.specs.Polyval.{IsReversedMulX}
use Rattle.gf128.specs.Code.States.{key_of}
use Rattle.aead.specs.Suites.{is_one_pass, text_limit}
use Rattle.aead.specs.Sealing.{Setting, Fits, authentication_key, mask_of, tag_of}
use Rattle.aead.specs.Ciphers.{setting}
use Rattle.aead.specs.declared.step.Order.TheVariants.{MaskFirst}
use Rattle.aead.specs.Suites.{ByGcmSiv}
use Rattle.aead.specs.Code.States.{HoldsAuthenticator, HeldByBlocks}
use Rattle.aead.specs.Code.Masks.{none_hashed}
use Rattle.aead.proofs.Opens.{unmasked, no_sealing, opened_as, two_pass_tag}
use Rattle.aead.proofs.gcm_siv.GcmSivAead.open_fitting.Goals as goal

pub returns-then-same : goal.returns-then-same
returns-then-same c =
    let s : Setting = setting c.args.self.now c.args.nonce.now c.args.aad.now in
    let by = c.derive-keys.ensures.by in
    let auth = authentication_key s.key s.nonce in
    let P : List ℕ → Type 0 =
    λ x. HoldsAuthenticator (HeldByBlocks ByGcmSiv Reversed (λ m. key_of m.now)) c.begin.new.self s x in
    let serves : Serves Reversed auth (key_of c.of-multiplier.result) = (
      c.derive-keys.ensures.block,
      subst (λ (k : List ℕ). IsReversedMulX auth k) (sym c.of-multiplier.ensures) c.derive-keys.ensures.multiplier_key,
    ) in
    let held : HeldByBlocks ByGcmSiv Reversed (λ m. key_of m.now) c.with.result s [] =
    (by, merely (c.with.ensures auth serves)) in
    let hash = rw (sym c.empty-authenticator.ensures.0) at held in
    let none = subst P (sym (none_hashed MaskFirst (mask_of s c.args.tag.now)))
    (c.begin.ensures.holds s refl c.requires.aad_fits hash) in
    let fed = c.step.ensures.step s c.args.tag.now [] (c.mask_of_tag-mask.ensures s by c.derive-keys.ensures.encryption) none
    (omega (arith, c.requires.text_fits)) in
    let tag_is : tag_of s (unmasked s c.args.tag.now c.args.body.now) ≡ c.encrypted_tag-found.result =
    two_pass_tag s (unmasked s c.args.tag.now c.args.body.now) (ap is_one_pass by)
    ∙ sym (c.encrypted_tag-found.ensures s _ by c.derive-keys.ensures.encryption refl (c.digest.ensures.digest s _ fed.1)) in
    let fits : Fits s c.args.body.now =
    record { aad_fits = c.requires.aad_fits; text_fits = c.requires.text_fits } in
    opened_as s c.args.body.now c.args.tag.now c.step.new.piece fits (λ i. (c.type_inv.body i).fits) fed.2
    (tag_is ∙ sym c.bytes.ensures.value ∙ c.same.ensures.0 c.if-same.true ∙ c.bytes-given.ensures.value)

pub returns : goal.returns
returns c =
    let s : Setting = setting c.args.self.now c.args.nonce.now c.args.aad.now in
    let by = c.derive-keys.ensures.by in
    let auth = authentication_key s.key s.nonce in
    let P : List ℕ → Type 0 =
    λ x. HoldsAuthenticator (HeldByBlocks ByGcmSiv Reversed (λ m. key_of m.now)) c.begin.new.self s x in
    let serves : Serves Reversed auth (key_of c.of-multiplier.result) = (
      c.derive-keys.ensures.block,
      subst (λ (k : List ℕ). IsReversedMulX auth k) (sym c.of-multiplier.ensures) c.derive-keys.ensures.multiplier_key,
    ) in
    let held : HeldByBlocks ByGcmSiv Reversed (λ m. key_of m.now) c.with.result s [] =
    (by, merely (c.with.ensures auth serves)) in
    let hash = rw (sym c.empty-authenticator.ensures.0) at held in
    let none = subst P (sym (none_hashed MaskFirst (mask_of s c.args.tag.now)))
    (c.begin.ensures.holds s refl c.requires.aad_fits hash) in
    let fed = c.step.ensures.step s c.args.tag.now [] (c.mask_of_tag-mask.ensures s by c.derive-keys.ensures.encryption) none
    (omega (arith, c.requires.text_fits)) in
    let tag_is : tag_of s (unmasked s c.args.tag.now c.args.body.now) ≡ c.encrypted_tag-found.result =
    two_pass_tag s (unmasked s c.args.tag.now c.args.body.now) (ap is_one_pass by)
    ∙ sym (c.encrypted_tag-found.ensures s _ by c.derive-keys.ensures.encryption refl (c.digest.ensures.digest s _ fed.1)) in
    let f : ℕ → ℕ = mask_of s c.args.tag.now in
    let long : length c.step.new.piece ≤ text_limit s.suite =
    omega (arith, ap length fed.2, length-masked f 0 c.args.body.now, c.requires.text_fits) in (
      (
        c.requires.aad_fits,
        (
          c.requires.text_fits,
          no_sealing s c.args.body.now c.args.tag.now c.bytes-given.ensures.are_bytes.length_is
              (λ e. true≢false
              (sym (c.same.ensures.1
              (c.bytes.ensures.value ∙ sym tag_is ∙ e ∙ sym c.bytes-given.ensures.value))
              ∙ c.if-same.false)),
        ),
      ),
      (c.apply_to.ensures s c.args.tag.now 0 (c.mask_of_tag.ensures s by c.derive-keys.ensures.encryption)
          (omega (arith, long))).1
          ∙ ap (masked f 0) fed.2
          ∙ masked_twice f 0 c.args.body.now,
    )
