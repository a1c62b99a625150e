-- Sealing and opening in terms of the mask and the tag.
use Rattle.std.proofs.Common.{◌≡◌, ℕ, ◌+◌, ◌<◌, true, false, List, ◌++◌, get_or, length}
use Rattle.std.proofs.Common.{refl, sym, ap, ap₂}
use Rattle.std.proofs.Common.{◌∙◌, arith, true≢false, length-append}
use Rattle.octets.specs.Masked.{masked}
use Rattle.octets.proofs.Masks.{length-masked, masked_twice}
use Rattle.aead.specs.Suites.{Construction, ByChaCha, ByGcm, ByGcmSiv, construction_of, is_one_pass}
use Rattle.aead.specs.Sealing.{Setting, mask_by, mask, tag_over_by, tag_over, tag_by, tag_of, sealing, Fits}
use Rattle.aead.specs.Sealing.{Opened, IsNoSealing}
use Rattle.aead.proofs.OneText.{length-sealing, same_front, same_back}

-- the text that a body decrypts to under a tag
abbrev pub unmasked : Setting → List ℕ → List ℕ → List ℕ
unmasked s tag body = masked (mask s.suite s.key s.nonce tag) 0 body

-- a body and a tag are the sealing of the text that the body decrypts to, if that text has the tag
pub sealed_if : (s : Setting) (body tag : List ℕ) → tag_of s (unmasked s tag body) ≡ tag
    → body ++ tag ≡ sealing s (unmasked s tag body)
unfolding sealing
sealed_if s body tag e =
    ap₂ (λ b t. b ++ t)
    (sym (masked_twice (mask s.suite s.key s.nonce tag) 0 body)
    ∙ ap (λ t. masked (mask s.suite s.key s.nonce t) 0 (unmasked s tag body)) (sym e))
    (sym e)

-- a body and a tag are the sealing of a text only if the body decrypts to it and it has the tag
pub sealed_only_if : (s : Setting) (body tag text : List ℕ) → length tag ≡ 16 → body ++ tag ≡ sealing s text
    → (tag_of s (unmasked s tag body) ≡ tag) × (text ≡ unmasked s tag body)
unfolding sealing
sealed_only_if s body tag text long e =
    let f : ℕ → ℕ = mask s.suite s.key s.nonce (tag_of s text) in
    let whole : length body + 16 ≡ length text + 16 =
    ap (λ n. length body + n) (sym long) ∙ sym (length-append body tag) ∙ ap length e
    ∙ length-sealing s text in
    let same : length body ≡ length (masked f 0 text) = omega (arith, length-masked f 0 text) in
    let front : body ≡ masked f 0 text = same_front body (masked f 0 text) tag (tag_of s text) same e in
    let tags : tag ≡ tag_of s text = same_back body (masked f 0 text) tag (tag_of s text) same e in
    let text_is : text ≡ unmasked s tag body =
    sym (ap₂ (λ t b. masked (mask s.suite s.key s.nonce t) 0 b) tags front ∙ masked_twice f 0 text) in
    (ap (tag_of s) (sym text_is) ∙ sym tags, text_is)

-- ---- by construction

-- if the tag is over the ciphertext, the mask does not depend on the tag
same_mask_by : (by : Construction) (key nonce tag other : List ℕ) → is_one_pass by ≡ true
    → mask_by by key nonce tag ≡ mask_by by key nonce other
unfolding mask_by
same_mask_by ByChaCha key nonce tag other h = refl
same_mask_by ByGcm key nonce tag other h = refl
same_mask_by ByGcmSiv key nonce tag other h = absurd (true≢false (sym h))

-- if the tag is over the ciphertext, it is over the ciphertext that the mask for any tag gives
one_pass_tag_by : (by : Construction) (key nonce aad tag text : List ℕ) → is_one_pass by ≡ true
    → tag_by by key nonce aad text ≡ tag_over_by by key nonce aad (masked (mask_by by key nonce tag) 0 text)
unfolding tag_by mask_by
one_pass_tag_by ByChaCha key nonce aad tag text h = refl
one_pass_tag_by ByGcm key nonce aad tag text h = refl
one_pass_tag_by ByGcmSiv key nonce aad tag text h = absurd (true≢false (sym h))

-- if the tag is not over the ciphertext, it is over the text
two_pass_tag_by : (by : Construction) (key nonce aad text : List ℕ) → is_one_pass by ≡ false
    → tag_by by key nonce aad text ≡ tag_over_by by key nonce aad text
unfolding tag_by
two_pass_tag_by ByChaCha key nonce aad text h = absurd (true≢false h)
two_pass_tag_by ByGcm key nonce aad text h = absurd (true≢false h)
two_pass_tag_by ByGcmSiv key nonce aad text h = refl

-- if the tag of a suite is over the ciphertext, its mask does not depend on the tag
pub same_mask : (s : Setting) (tag other : List ℕ) → is_one_pass (construction_of s.suite) ≡ true
    → mask s.suite s.key s.nonce tag ≡ mask s.suite s.key s.nonce other
unfolding mask
same_mask s tag other one = same_mask_by (construction_of s.suite) s.key s.nonce tag other one

-- if the tag of a suite is over the ciphertext, it is over the ciphertext that the mask for any tag gives
pub one_pass_tag : (s : Setting) (tag text : List ℕ) → is_one_pass (construction_of s.suite) ≡ true
    → tag_of s text ≡ tag_over s.suite s.key s.nonce s.aad (masked (mask s.suite s.key s.nonce tag) 0 text)
unfolding tag_of tag_over mask
one_pass_tag s tag text one = one_pass_tag_by (construction_of s.suite) s.key s.nonce s.aad tag text one

-- if the tag of a suite is not over the ciphertext, it is over the text
pub two_pass_tag : (s : Setting) (text : List ℕ) → is_one_pass (construction_of s.suite) ≡ false
    → tag_of s text ≡ tag_over s.suite s.key s.nonce s.aad text
unfolding tag_of tag_over
two_pass_tag s text two = two_pass_tag_by (construction_of s.suite) s.key s.nonce s.aad text two

-- if the tag is over the ciphertext, the tag of the text that a body decrypts to is the tag over the body
pub body_tag : (s : Setting) (tag body : List ℕ) → is_one_pass (construction_of s.suite) ≡ true
    → tag_of s (unmasked s tag body) ≡ tag_over s.suite s.key s.nonce s.aad body
body_tag s tag body one =
    one_pass_tag s tag (unmasked s tag body) one
    ∙ ap (tag_over s.suite s.key s.nonce s.aad) (masked_twice (mask s.suite s.key s.nonce tag) 0 body)

-- ---- sealings from their parts

-- a ciphertext and the tag over it are the sealing of the text
pub seals_one_pass : (s : Setting) (some text out tag : List ℕ) → is_one_pass (construction_of s.suite) ≡ true
    → Fits s text → ((i : ℕ) → get_or text i 0 < 256)
    → out ≡ masked (mask s.suite s.key s.nonce some) 0 text
    → tag ≡ tag_over s.suite s.key s.nonce s.aad (masked (mask s.suite s.key s.nonce some) 0 text)
    → Opened s (out ++ tag) text
unfolding sealing
seals_one_pass s some text out tag one fits bytes e f =
    let tag_is : tag ≡ tag_of s text = f ∙ sym (one_pass_tag s some text one) in
    record {
      fits = fits;
      bytes = bytes;
      is = ap₂ (λ b t. b ++ t) (e ∙ ap (λ g. masked g 0 text) (same_mask s some (tag_of s text) one)) tag_is;
    }

-- a ciphertext and the tag over the text are the sealing of the text
pub seals_two_pass : (s : Setting) (text out tag : List ℕ) → is_one_pass (construction_of s.suite) ≡ false
    → Fits s text → ((i : ℕ) → get_or text i 0 < 256)
    → tag ≡ tag_over s.suite s.key s.nonce s.aad text → out ≡ masked (mask s.suite s.key s.nonce tag) 0 text
    → Opened s (out ++ tag) text
unfolding sealing
seals_two_pass s text out tag two fits bytes f e =
    let tag_is : tag ≡ tag_of s text = f ∙ sym (two_pass_tag s text two) in
    record {
      fits = fits;
      bytes = bytes;
      is = ap₂ (λ b t. b ++ t) (e ∙ ap (λ t. masked (mask s.suite s.key s.nonce t) 0 text) tag_is) tag_is;
    }

-- a body and a tag that is not the tag of its text are not a valid sealing
pub no_sealing : (s : Setting) (body tag : List ℕ) → length tag ≡ 16
    → (tag_of s (unmasked s tag body) ≡ tag → ⊥) → IsNoSealing s (body ++ tag)
no_sealing s body tag long other (text, o) = other (sealed_only_if s body tag text long o.is).0

-- a body and the tag of its text are the sealing of that text
pub opened_as : (s : Setting) (body tag text : List ℕ) → Fits s body
    → ((i : ℕ) → get_or text i 0 < 256) → text ≡ unmasked s tag body → tag_of s (unmasked s tag body) ≡ tag
    → Opened s (body ++ tag) text
opened_as s body tag text fits bytes e same = record {
  fits = record {
    aad_fits = fits.aad_fits;
    text_fits =
        rw (e, length-masked (mask s.suite s.key s.nonce tag) 0 body) fits.text_fits;
  };
  bytes = bytes;
  is = sealed_if s body tag same ∙ ap (sealing s) (sym e);
}
