-- A sealing has only one text.
use Rattle.std.proofs.Common.{◌≡◌, ℕ, ◌+◌, ◌-◌, ◌*◌, ◌%◌, ◌/◌, false, List, [], ◌++◌, take, drop, get_or}
use Rattle.std.proofs.Common.{length, map, bit_xor, refl, sym, ap, ap₂, ◌∙◌, arith, length-append}
use Rattle.std.specs.List.{range_with_len}
use Rattle.std.proofs.lemmas.List.{take_at, drop_at}
use Rattle.std.proofs.lemmas.List.FromFn.{length-map-range_with_len}
use Rattle.octets.specs.Bits.{number, bytes_of_g}
use Rattle.octets.specs.Masked.{masked}
use Rattle.octets.proofs.Masks.{length-masked, masked_twice}
use Rattle.octets.proofs.Xors.{length-xor_bytes}
use Rattle.aes.specs.Schedule.{schedule, round_count}
use Rattle.aes.specs.Cipher.{cipher, add_round_key, shift_rows, sub_bytes, rounds, at}
use Rattle.poly1305.specs.Poly1305.{poly1305}
use Rattle.gf128.specs.Ghash.{ghash, ghash_sum}
use Rattle.aead.specs.Suites.{Construction, ByChaCha, ByGcm, ByGcmSiv, construction_of}
use Rattle.aead.specs.Sealing.{Setting, poly_key, chacha_authenticated, hash_key, j0, gcm_authenticated}
use Rattle.aead.specs.Sealing.{encryption_key, mask, chacha_mask, gcm_mask, tag_over_by, tag_by}
use Rattle.aead.specs.Sealing.{tag_of, sealing}
use Rattle.aead.specs.Sealing.{HasOneText}

-- ---- a tag has 16 bytes

-- a state to which a round key is added has 16 bytes
length-add_round_key : (ws : List (List ℕ)) (n : ℕ) (s : List ℕ) → length (add_round_key ws n s) ≡ 16
unfolding add_round_key
length-add_round_key ws n s =
    length-map-range_with_len
    (λ i. bit_xor (at s (i % 4) (i / 4)) (get_or (get_or ws (4 * n + i / 4) []) (i % 4) 0)) 0 16

-- a block of the cipher has 16 bytes
pub length-cipher : (key b : List ℕ) → length (cipher key b) ≡ 16
unfolding cipher
length-cipher key b =
    length-add_round_key (schedule key) (round_count key)
    (shift_rows (sub_bytes (rounds (schedule key) (round_count key - 1) b)))

-- a tag of Poly1305 has 16 bytes
length-poly1305 : (key m : List ℕ) → length (poly1305 key m) ≡ 16
unfolding poly1305
length-poly1305 key m = refl

-- a block of GHASH has 16 bytes
length-ghash : (h m : List ℕ) → length (ghash h m) ≡ 16
unfolding ghash bytes_of_g
length-ghash h m =
    length-map-range_with_len
    (λ i. number (map (λ j. get_or (ghash_sum h m (length m / 16)) (8 * i + (7 - j)) false)
    (range_with_len 0 8))) 0 16

-- the tag of a construction over the authenticated bytes has 16 bytes
length-tag_over_by : (by : Construction) (key nonce aad c : List ℕ)
    → length (tag_over_by by key nonce aad c) ≡ 16
unfolding tag_over_by
length-tag_over_by ByChaCha key nonce aad c =
    length-poly1305 (poly_key key nonce) (chacha_authenticated aad c)
length-tag_over_by ByGcm key nonce aad c =
    length-xor_bytes (cipher key (j0 nonce)) (ghash (hash_key key) (gcm_authenticated aad c))
    (length-cipher key (j0 nonce) ∙ sym (length-ghash (hash_key key) (gcm_authenticated aad c)))
    ∙ length-cipher key (j0 nonce)
length-tag_over_by ByGcmSiv key nonce aad c = length-cipher (encryption_key key nonce) _

-- the tag of a text under a construction has 16 bytes
length-tag_by : (by : Construction) (key nonce aad text : List ℕ) → length (tag_by by key nonce aad text) ≡ 16
unfolding tag_by
length-tag_by ByChaCha key nonce aad text =
    length-tag_over_by ByChaCha key nonce aad (masked (chacha_mask key nonce) 0 text)
length-tag_by ByGcm key nonce aad text =
    length-tag_over_by ByGcm key nonce aad (masked (gcm_mask key nonce) 0 text)
length-tag_by ByGcmSiv key nonce aad text = length-tag_over_by ByGcmSiv key nonce aad text

-- the tag of a text in a setting has 16 bytes
pub length-tag_of : (s : Setting) (text : List ℕ) → length (tag_of s text) ≡ 16
unfolding tag_of
length-tag_of s text = length-tag_by (construction_of s.suite) s.key s.nonce s.aad text

-- ---- two joined lists are equal only where their parts of one length are

-- if two joined lists are equal, and their first parts have one length, the first parts are equal
pub same_front : (a b x y : List ℕ) → length a ≡ length b → a ++ x ≡ b ++ y → a ≡ b
same_front a b x y l e = sym (take_at a x (length b) l) ∙ ap (take (length b)) e ∙ take_at b y (length b) refl

-- if two joined lists are equal, and their first parts have one length, the second parts are equal
pub same_back : (a b x y : List ℕ) → length a ≡ length b → a ++ x ≡ b ++ y → x ≡ y
same_back a b x y l e = sym (drop_at a x (length b) l) ∙ ap (drop (length b)) e ∙ drop_at b y (length b) refl

-- ---- the law

-- a sealing is sixteen bytes longer than its text
pub length-sealing : (s : Setting) (text : List ℕ) → length (sealing s text) ≡ length text + 16
unfolding sealing
length-sealing s text =
    length-append (masked (mask s.suite s.key s.nonce (tag_of s text)) 0 text) (tag_of s text)
    ∙ ap₂ (λ i j. i + j) (length-masked (mask s.suite s.key s.nonce (tag_of s text)) 0 text)
    (length-tag_of s text)

-- texts with one sealing are equal
pub sealing_one_to_one : (s : Setting) (text other : List ℕ) → sealing s text ≡ sealing s other → text ≡ other
unfolding sealing
sealing_one_to_one s text other e =
    let f : ℕ → ℕ = mask s.suite s.key s.nonce (tag_of s text) in
    let h : ℕ → ℕ = mask s.suite s.key s.nonce (tag_of s other) in
    let whole : length text + 16 ≡ length other + 16 =
    sym (length-sealing s text) ∙ ap length e ∙ length-sealing s other in
    let long : length (masked f 0 text) ≡ length (masked h 0 other) =
    length-masked f 0 text ∙ omega arith ∙ sym (length-masked h 0 other) in
    let front : masked f 0 text ≡ masked h 0 other =
    same_front (masked f 0 text) (masked h 0 other) (tag_of s text) (tag_of s other) long e in
    let tags : tag_of s text ≡ tag_of s other =
    same_back (masked f 0 text) (masked h 0 other) (tag_of s text) (tag_of s other) long e in
    sym (masked_twice f 0 text) ∙ ap (masked f 0) front
    ∙ ap (λ t. masked (mask s.suite s.key s.nonce t) 0 (masked h 0 other)) tags
    ∙ masked_twice h 0 other

-- the law `HasOneText`
pub one_text : HasOneText
one_text s sealed text o = (
  ap length o.is ∙ length-sealing s text,
  λ other p. sealing_one_to_one s other text (sym p.is ∙ o.is),
)
