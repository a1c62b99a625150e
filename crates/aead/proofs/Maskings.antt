-- A piece is masked and authenticated, in either order.
use Rattle.std.proofs.Common.{◌≡◌, ◌≤◌, ℕ, ◌+◌, ◌-◌, ◌*◌, ◌/◌, List, [], ◌++◌, length, take, drop, subst, sym, ap, ◌∙◌}
use Rattle.std.proofs.Common.{arith, length-append, zero-add}
use Rattle.std.proofs.lemmas.List.{append_assoc, length-drop, take_all, take-append-drop}
use Rattle.octets.specs.Bytes.{pad16}
use Rattle.octets.specs.Ends.{whole_blocks}
use Rattle.octets.specs.Masked.{masked}
use Rattle.octets.proofs.Masks.{length-masked, masked-append}
use Rattle.aead.specs.declared.authenticator.Authenticator.{Authenticator}
use Rattle.aead.specs.Suites.{text_limit}
use Rattle.aead.specs.Sealing.{Setting, mask_of}
use Rattle.aead.specs.Code.States.{HoldsAuthenticator}
use Rattle.aead.specs.Code.Masks.{Masks, Takes, MasksAndHashes, as_it_comes, as_it_leaves, none_hashed}
use Rattle.aead.specs.declared.engine.stage.Masking.{Masking}
use Rattle.aead.specs.PassStates.{HoldsNumbers}
use Rattle.aead.specs.Code.MessageKeys.{AreKeysOf}
use Rattle.aead.specs.Code.Maskings.{Task, task_mask, HoldsMasking}

-- an authenticator whose hash takes in bytes, and whose length grows by them, has taken them in
authenticated : {H : Type 0} (held : H → Setting → List ℕ → Type 0) (a b : Authenticator H) (x : List ℕ)
    → Takes held a.hash b.hash x → b.aad_length ≡ a.aad_length → b.length ≡ a.length + length x
    → (s : Setting) (m : List ℕ) → HoldsAuthenticator held a s m → length m + length x ≤ text_limit s.suite
    → HoldsAuthenticator held b s (m ++ x)
authenticated held a b x takes aad long = λ s m h room.
    let all : length (m ++ x) ≡ length m + length x = length-append m x in record {
      hashed = subst (held b.hash s) (append_assoc (pad16 s.aad) m x) (takes s _ h.hashed);
      aad_length_is = aad ∙ h.aad_length_is;
      length_is = omega (arith, long, all, h.length_is);
      fits = record { aad_fits = h.fits.aad_fits; text_fits = omega (arith, all, room) };
    }

-- if a piece is masked, and the piece as it comes in is hashed, it is masked and authenticated
pub hash_first : {S H : Type 0} (made : S → Setting → List ℕ → ℕ → Type 0)
    (held : H → Setting → List ℕ → Type 0) (m m' : S) (a a' : Authenticator H) (was now : List ℕ)
    → Masks made m m' was now → Takes held a.hash a'.hash was → a'.aad_length ≡ a.aad_length
    → a'.length ≡ a.length + length was → MasksAndHashes made held as_it_comes m m' a a' was now
hash_first made held m m' a a' was now masks takes aad long = λ s tag fed h k fits.
    let M : ℕ → Type 0 = λ n. made m' s tag n in
    let next = masks s tag (length fed) h fits in
    (subst M (sym (length-append fed was)) next.0, authenticated held a a' was takes aad long s fed k fits, next.1)

-- if a piece is masked, and the piece as it leaves is hashed, it is masked and authenticated
pub mask_first : {S H : Type 0} (made : S → Setting → List ℕ → ℕ → Type 0)
    (held : H → Setting → List ℕ → Type 0) (m m' : S) (a a' : Authenticator H) (was now : List ℕ)
    → Masks made m m' was now → Takes held a.hash a'.hash now → a'.aad_length ≡ a.aad_length
    → a'.length ≡ a.length + length now → MasksAndHashes made held as_it_leaves m m' a a' was now
mask_first made held m m' a a' was now masks takes aad longer = λ s tag fed h k fits.
    let mask : ℕ → ℕ = mask_of s tag in
    let M : ℕ → Type 0 = λ n. made m' s tag n in
    let R : List ℕ → Type 0 = λ x. HoldsAuthenticator held a' s x in
    let next = masks s tag (length fed) h fits in
    let before : List ℕ = masked mask 0 fed in
    let long : length now ≡ length was = ap length next.1 ∙ length-masked mask (length fed) was in
    let both : before ++ now ≡ masked mask 0 (fed ++ was) =
    ap (λ o. before ++ o) next.1
    ∙ sym (masked-append mask 0 fed was ∙ ap (λ i. before ++ masked mask i was) (zero-add (length fed))) in (
      subst M (sym (length-append fed was)) next.0,
      subst R both
          (authenticated held a a' now takes aad longer s before k (omega (arith, fits, long, length-masked mask 0 fed))),
      next.1,
    )

-- the whole blocks of a piece and the bytes after them are the piece
pub blocks_and_rest : (m x : List ℕ) (n : ℕ) → n ≡ length x
    → (m ++ whole_blocks x) ++ take (length x - n / 16 * 16) (drop (n / 16 * 16) x) ≡ m ++ x
blocks_and_rest m x n e =
    let q : ℕ = length x / 16 * 16 in
    append_assoc m (whole_blocks x) (take (length x - n / 16 * 16) (drop (n / 16 * 16) x))
    ∙ ap (λ (j : ℕ). m ++ (whole_blocks x ++ take (length x - j / 16 * 16) (drop (j / 16 * 16) x))) e
    ∙ ap (λ y. m ++ (whole_blocks x ++ y)) (take_all (length x - q) (drop q x) (omega (arith, length-drop q x)))
    ∙ ap (λ y. m ++ y) (take-append-drop q x)

-- a stage that has taken in no piece belongs to a task
pub none_fed : (t : Task) (m : Masking) → AreKeysOf m.keys.now t.setting → m.order ≡ t.order → m.tag ≡ t.tag
    → HoldsNumbers m.state t.setting [] → HoldsMasking t m []
none_fed t m keys order tag h = record {
  keys_are = keys;
  order_is = order;
  tag_is = tag;
  taken = subst (HoldsNumbers m.state t.setting) (sym (none_hashed t.order (task_mask t))) h;
  count_is = h.length_is;
}
