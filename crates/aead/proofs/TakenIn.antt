-- Facts about what the numbers of a pass have taken in, as a text or as a ciphertext.
use Rattle.std.proofs.Common.{◌≡◌, ℕ, true, List, [], length, sym, subst, refl, ◌∙◌, arith}
use Rattle.octets.specs.Masked.{masked}
use Rattle.octets.proofs.Masks.{length-masked}
use Rattle.aead.specs.declared.pieces.pass_state.PassState.{PassState}
use Rattle.aead.specs.Suites.{Construction, ByChaCha, ByGcm, ByGcmSiv, construction_of, is_one_pass}
use Rattle.aead.specs.Sealing.{Setting, Fits, mask_of}
use Rattle.aead.specs.Code.Masks.{none_leaves}
use Rattle.aead.specs.PassStates.{HoldsNumbers, HoldsState}
use Rattle.aead.specs.KeyedPasses.{authenticated_by}
use Rattle.aead.specs.Pieces.{HasTakenIn}
use Rattle.aead.proofs.KeyedPasses.{length_authenticated}
use Rattle.aead.proofs.Opens.{same_mask}

-- ---- a sealing in one reading

-- in a suite of one pass, numbers that hold a ciphertext masked for one tag hold it for every tag
pub any_tag : (n : PassState) (s : Setting) (some text : List ℕ) → is_one_pass (construction_of s.suite) ≡ true
    → HoldsNumbers n s (masked (mask_of s some) 0 text) → HoldsState n s text
any_tag n s some text one h =
    λ tag. subst (λ (f : ℕ → ℕ). HoldsNumbers n s (masked f 0 text)) (same_mask s some tag one) h

-- numbers that hold no bytes hold the empty text
pub empty_text : (n : PassState) (s : Setting) → HoldsNumbers n s [] → HoldsState n s []
empty_text n s h = λ tag. subst (HoldsNumbers n s) (sym (none_leaves (mask_of s tag))) h

-- the count of bytes is the length of the text
pub text_length : (n : PassState) (s : Setting) (text : List ℕ) → HoldsState n s text → n.length ≡ length text
text_length n s text h = (h []).length_is ∙ length-masked (mask_of s []) 0 text

-- ---- an opening

-- the empty ciphertext has no authenticated bytes
none_authenticated : (by : Construction) (f : ℕ → ℕ) → authenticated_by by f [] ≡ []
none_authenticated ByChaCha f = refl
none_authenticated ByGcm f = refl
none_authenticated ByGcmSiv f = none_leaves f

-- numbers that hold no bytes have taken in the empty ciphertext
pub taken_none : (n : PassState) (s : Setting) (tag : List ℕ) → HoldsNumbers n s [] → HasTakenIn n s tag []
taken_none n s tag h = subst (HoldsNumbers n s) (sym (none_authenticated (construction_of s.suite) (mask_of s tag))) h

-- the count of bytes is the length of the ciphertext
pub taken_length : (n : PassState) (s : Setting) (tag body : List ℕ) → HasTakenIn n s tag body → n.length ≡ length body
taken_length n s tag body h = h.length_is ∙ length_authenticated (construction_of s.suite) (mask_of s tag) body

pub taken_fits : (n : PassState) (s : Setting) (tag body : List ℕ) → HasTakenIn n s tag body → Fits s body
taken_fits n s tag body h = record {
  aad_fits = h.fits.aad_fits;
  text_fits = omega (
    arith,
    h.fits.text_fits,
    length_authenticated (construction_of s.suite) (mask_of s tag) body,
  );
}
