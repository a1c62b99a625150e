-- The masks of all suites consist of bytes.
use Rattle.std.proofs.Common.{◌≡◌, ℕ, zero, suc, ◌+◌, ◌-◌, ◌*◌, ◌/◌, ◌%◌, ◌<◌, true, List, [], ◌∷◌, get_or}
use Rattle.std.proofs.Common.{flat_map, refl, sym, subst, arith, true≢false}
use Rattle.std.proofs.Common.{◌∙◌, ◌++◌, ap, take, length, length-append, inl, inr}
use Rattle.std.proofs.lemmas.List.{length-take-le}
use Rattle.std.proofs.lemmas.Nat.{xor_of_8}
use Rattle.std.specs.Int.{byte_at, bytes_low_first, to_le_bytes, w32}
use Rattle.octets.specs.Bytes.{IsBlock}
use Rattle.octets.specs.Masked.{masked}
use Rattle.chacha.specs.Block.{block, block_from, serialized}
use Rattle.chacha.specs.Stream.{key_stream_byte}
use Rattle.aes.specs.Schedule.{schedule, key_words, round_count}
use Rattle.aes.specs.Cipher.{sub_bytes, shift_rows, mix_columns, rounds, cipher, IsKey, IsKeyLength}
use Rattle.aes.specs.Counters.{up_be, up_le, counter_byte}
use Rattle.aes.proofs.Steps.{AreWords, sub_block, shift_block, mix_block, add_block}
use Rattle.aes.proofs.Permutation.{words_are}
use Rattle.aead.specs.declared.suite.Suite.{Suite}
use Rattle.aead.specs.declared.suite.Suite.TheVariants.{ChaCha20Poly1305, Aes128Gcm, Aes192Gcm, Aes256Gcm}
use Rattle.aead.specs.declared.suite.Suite.TheVariants.{Aes128GcmSiv, Aes256GcmSiv}
use Rattle.aead.specs.Suites.{Construction, ByChaCha, ByGcm, ByGcmSiv, construction_of, is_one_pass, key_length}
use Rattle.aead.specs.Sealing.{Setting, j0, key_part, encryption_key, counter_block, mask_by, mask, mask_of}
use Rattle.aead.specs.Pieces.{MasksByBytes}
use Rattle.aead.proofs.DerivedKeys.{short_key, long_key}
use Rattle.aead.proofs.Passing.{small-append}

-- bytes masked by bytes are bytes
pub masked_small : (f : ℕ → ℕ) (at : ℕ) (xs : List ℕ) → ((i : ℕ) → get_or xs i 0 < 256)
    → ((i : ℕ) → f i < 256) → (i : ℕ) → get_or (masked f at xs) i 0 < 256
unfolding masked
masked_small f at [] small bytes i = omega arith
masked_small f at (x ∷ xs) small bytes zero = xor_of_8 x (f at) (small 0) (bytes at)
masked_small f at (x ∷ xs) small bytes (suc i) = masked_small f (suc at) xs (λ j. small (suc j)) bytes i

-- a byte of a number is below 256
byte_small : (i n : ℕ) → byte_at i n < 256
byte_small zero n = omega arith
byte_small (suc i) n = omega arith

low_first_small : (k i n j : ℕ) → get_or (bytes_low_first i k n) j 0 < 256
low_first_small zero i n j = omega arith
low_first_small (suc k) i n zero = byte_small i n
low_first_small (suc k) i n (suc j) = low_first_small k (suc i) n j

-- the bytes of words, such as the blocks of the key stream of ChaCha20, are below 256
words_small : (words : List ℕ) (i : ℕ) → get_or (flat_map (to_le_bytes w32) words) i 0 < 256
words_small [] i = omega arith
words_small (w ∷ words) i =
    small-append (to_le_bytes w32 w) (flat_map (to_le_bytes w32) words) (low_first_small 4 0 w)
    (words_small words) i

key_stream_small : (key nonce : List ℕ) (first i : ℕ) → key_stream_byte key nonce first i < 256
unfolding key_stream_byte block block_from serialized
key_stream_small key nonce first i = words_small _ (i % 64)

-- after a round, whatever came in, the state is a block
rounds_any : (ws : List (List ℕ)) (n : ℕ) (b : List ℕ) → AreWords ws → IsBlock (rounds ws (suc n) b)
unfolding rounds
rounds_any ws n b words =
    let s : List ℕ = shift_rows (sub_bytes (rounds ws n b)) in
    add_block ws (suc n) (mix_columns s) words (mix_block s)

cipher_any : (key b : List ℕ) → IsKey key → IsBlock (cipher key b)
unfolding cipher
cipher_any key b k =
    let ws : List (List ℕ) = schedule key in
    let words : AreWords ws = words_are key (4 * (round_count key + 1)) k.bytes in
    let s : List ℕ = rounds ws (round_count key - 1) b in
    let P : ℕ → Type 0 = λ n. IsBlock (rounds ws n b) in
    let last : suc (key_words key + 4) ≡ round_count key - 1 = omega arith in
    let block : IsBlock s = subst P last (rounds_any ws (key_words key + 4) b words) in
    add_block ws (round_count key) (shift_rows (sub_bytes s)) words
    (shift_block (sub_bytes s) (sub_block s block))

counter_small : (key b : List ℕ) (i : ℕ) → IsKey key → counter_byte up_be key b i < 256
unfolding counter_byte
counter_small key b i k = (cipher_any key (up_be b (i / 16)) k).bytes (i % 16)

counter_small_le : (key b : List ℕ) (i : ℕ) → IsKey key → counter_byte up_le key b i < 256
unfolding counter_byte
counter_small_le key b i k = (cipher_any key (up_le b (i / 16)) k).bytes (i % 16)

-- if all numbers of a list are below 256, so are its first ones
take_small : (n : ℕ) (xs : List ℕ) → ((i : ℕ) → get_or xs i 0 < 256) → (i : ℕ) → get_or (take n xs) i 0 < 256
take_small zero xs p i = omega arith
take_small (suc n) [] p i = omega arith
take_small (suc n) (x ∷ xs) p zero = p 0
take_small (suc n) (x ∷ xs) p (suc i) = take_small n xs (λ j. p (suc j)) i

-- a part of the derived keys has eight bytes
part_long : (key nonce : List ℕ) (i : ℕ) → IsKey key → length (key_part key nonce i) ≡ 8
unfolding key_part
part_long key nonce i k =
    let block : List ℕ = cipher key (to_le_bytes w32 i ++ nonce) in
    length-take-le 8 block (omega (arith, (cipher_any key (to_le_bytes w32 i ++ nonce) k).length_is))

part_small : (key nonce : List ℕ) (i : ℕ) → IsKey key → (j : ℕ) → get_or (key_part key nonce i) j 0 < 256
unfolding key_part
part_small key nonce i k =
    take_small 8 (cipher key (to_le_bytes w32 i ++ nonce)) (cipher_any key (to_le_bytes w32 i ++ nonce) k).bytes

two_parts_long : (key nonce : List ℕ) (i j : ℕ) → IsKey key
    → length (key_part key nonce i ++ key_part key nonce j) ≡ 16
two_parts_long key nonce i j k =
    omega (
      arith,
      length-append (key_part key nonce i) (key_part key nonce j),
      part_long key nonce i k,
      part_long key nonce j k,
    )

two_parts_small : (key nonce : List ℕ) (i j : ℕ) → IsKey key → (n : ℕ)
    → get_or (key_part key nonce i ++ key_part key nonce j) n 0 < 256
two_parts_small key nonce i j k =
    small-append (key_part key nonce i) (key_part key nonce j) (part_small key nonce i k) (part_small key nonce j k)

-- the encryption key that is derived from a key of AES is a key of AES
short_derived : (key nonce : List ℕ) → length key ≡ 16 → IsKey key → IsKey (encryption_key key nonce)
short_derived key nonce long k =
    subst IsKey (sym (short_key key nonce long)) (record {
      length_is = inl (two_parts_long key nonce 2 3 k);
      bytes = two_parts_small key nonce 2 3 k;
    })

long_derived : (key nonce : List ℕ) → length key ≡ 32 → IsKey key → IsKey (encryption_key key nonce)
long_derived key nonce long k =
    let a : List ℕ = key_part key nonce 2 ++ key_part key nonce 3 in
    let b : List ℕ = key_part key nonce 4 ++ key_part key nonce 5 in
    subst IsKey (sym (long_key key nonce long)) (record {
      length_is = inr (inr (omega (
        arith,
        length-append a b,
        two_parts_long key nonce 2 3 k,
        two_parts_long key nonce 4 5 k,
      )));
      bytes = small-append a b (two_parts_small key nonce 2 3 k) (two_parts_small key nonce 4 5 k);
    })

derived_key : (suite : Suite) (key nonce : List ℕ) → construction_of suite ≡ ByGcmSiv
    → length key ≡ key_length suite → IsKey key → IsKey (encryption_key key nonce)
derived_key ChaCha20Poly1305 key nonce e long k = long_derived key nonce long k
derived_key Aes128Gcm key nonce e long k = short_derived key nonce long k
derived_key Aes192Gcm key nonce e long k = absurd (true≢false (ap is_one_pass e))
derived_key Aes256Gcm key nonce e long k = long_derived key nonce long k
derived_key Aes128GcmSiv key nonce e long k = short_derived key nonce long k
derived_key Aes256GcmSiv key nonce e long k = long_derived key nonce long k

-- the mask of each construction consists of bytes, if its cipher has a key of AES
mask_small_by : (by : Construction) (key nonce tag : List ℕ) → (by ≡ ByGcm → IsKey key)
    → (by ≡ ByGcmSiv → IsKey (encryption_key key nonce)) → (i : ℕ) → mask_by by key nonce tag i < 256
unfolding mask_by
mask_small_by ByChaCha key nonce tag k m i = key_stream_small key nonce 1 i
mask_small_by ByGcm key nonce tag k m i = counter_small key (up_be (j0 nonce) 1) i (k refl)
mask_small_by ByGcmSiv key nonce tag k m i =
    counter_small_le (encryption_key key nonce) (counter_block tag) i (m refl)

-- the mask of each suite consists of bytes, if its cipher has a key of AES
pub mask_of_small : (s : Setting) (tag : List ℕ) → (construction_of s.suite ≡ ByGcm → IsKey s.key)
    → (construction_of s.suite ≡ ByGcmSiv → IsKey (encryption_key s.key s.nonce)) → (i : ℕ) → mask_of s tag i < 256
unfolding mask
mask_of_small s tag k m i = mask_small_by (construction_of s.suite) s.key s.nonce tag k m i

-- the mask of a suite whose tag is over the ciphertext consists of bytes, for GCM under a key of AES
pub mask_small : (s : Setting) (tag : List ℕ) → is_one_pass (construction_of s.suite) ≡ true
    → (construction_of s.suite ≡ ByGcm → IsKey s.key) → (i : ℕ) → mask_of s tag i < 256
unfolding mask
mask_small s tag one k i =
    mask_small_by (construction_of s.suite) s.key s.nonce tag k
    (λ e. absurd (true≢false (sym one ∙ ap is_one_pass e))) i

-- the mask of each suite consists of bytes, if the key is a key of AES and has the suite's length
pub any_mask_small : (s : Setting) (tag : List ℕ) → IsKey s.key → length s.key ≡ key_length s.suite → (i : ℕ)
    → mask_of s tag i < 256
unfolding mask
any_mask_small s tag k long i =
    mask_small_by (construction_of s.suite) s.key s.nonce tag (λ _. k)
    (λ e. derived_key s.suite s.key s.nonce e long k) i

-- the key length of each suite is 16, 24 or 32
key_size : (suite : Suite) → IsKeyLength (key_length suite)
key_size ChaCha20Poly1305 = inr (inr refl)
key_size Aes128Gcm = inl refl
key_size Aes192Gcm = inr (inl refl)
key_size Aes256Gcm = inr (inr refl)
key_size Aes128GcmSiv = inl refl
key_size Aes256GcmSiv = inr (inr refl)

-- bytes of a suite's key length are a key of AES
pub aes_key : (suite : Suite) (key : List ℕ) → length key ≡ key_length suite → ((i : ℕ) → get_or key i 0 < 256)
    → IsKey key
aes_key suite key long bytes = record {
  length_is = subst IsKeyLength (sym long) (key_size suite);
  bytes = bytes;
}

-- the masks under bytes of a suite's key length consist of bytes
pub masks_by_bytes : (s : Setting) → length s.key ≡ key_length s.suite → ((i : ℕ) → get_or s.key i 0 < 256)
    → MasksByBytes s
masks_by_bytes s long bytes = λ tag. any_mask_small s tag (aes_key s.suite s.key long bytes) long
