-- A sealing of AES-128-GCM with associated data, computed by the definitions: the first of NIST's test vectors for SP 800-38D
-- with a nonce of 96 bits and text, associated data and tag of 128 bits each.
use Rattle.std.proofs.Common.{◌≡◌, ℕ, suc, Bool, List, [], ◌∷◌, ◌++◌, get_or, refl, sym, ap, ap₂, ◌∙◌, inl}
use Rattle.std.proofs.Common.{arith}
use Rattle.octets.specs.Bits.{g}
use Rattle.octets.specs.Bytes.{IsBlock, block_at, be, xor_bytes}
use Rattle.octets.specs.Masked.{masked}
use Rattle.octets.specs.Polynomial.{coefficient, sum, product, sum_of_first, residue}
use Rattle.octets.proofs.Sequence.{sum_of}
use Rattle.octets.proofs.Horner.{sum_is, times_same}
use Rattle.aes.specs.Schedule.{xor_word, rcon}
use Rattle.aes.specs.Cipher.{shift_rows, add_round_key, cipher, IsKey}
use Rattle.aes.specs.Counters.{up_be, counter_byte}
use Rattle.aes.proofs.Small.{all_small}
use Rattle.aes.proofs.Computed.{words_by_table, schedule_by_table, sub_by_table, mix_by_doubling}
use Rattle.aes.proofs.Computed.{rounds_computed, cipher_computed, cipher_is_computed}
use Rattle.gf128.specs.Ghash.{ghash_modulus, ghash_sum, ghash, IsGhash}
use Rattle.gf128.proofs.Sums.{ghash_step, ghash_is_the_only}
use Rattle.aead.specs.declared.suite.Suite.TheVariants.{Aes128Gcm}
use Rattle.aead.specs.Suites.{ByGcm}
use Rattle.aead.specs.Sealing.{hash_key, j0, gcm_authenticated, mask_by, gcm_mask, mask, tag_over_by}
use Rattle.aead.specs.Sealing.{tag_by, tag_of}
use Rattle.aead.specs.Sealing.{sealing}
use Rattle.aead.proofs.Computed.{computed}

-- the key
unfoldable key : List ℕ
key =
    0xc9 ∷ 0x39 ∷ 0xcc ∷ 0x13 ∷ 0x39 ∷ 0x7c ∷ 0x1d ∷ 0x37 ∷ 0xde ∷ 0x6a ∷ 0xe0 ∷ 0xe1 ∷ 0xcb ∷ 0x7c ∷ 0x42
    ∷ 0x3c ∷ []

-- the words of the key's schedule
unfoldable key_words : List (List ℕ)
key_words =
    (0xc9 ∷ 0x39 ∷ 0xcc ∷ 0x13 ∷ []) ∷ (0x39 ∷ 0x7c ∷ 0x1d ∷ 0x37 ∷ []) ∷
    (0xde ∷ 0x6a ∷ 0xe0 ∷ 0xe1 ∷ []) ∷ (0xcb ∷ 0x7c ∷ 0x42 ∷ 0x3c ∷ []) ∷
    (0xd8 ∷ 0x15 ∷ 0x27 ∷ 0x0c ∷ []) ∷ (0xe1 ∷ 0x69 ∷ 0x3a ∷ 0x3b ∷ []) ∷
    (0x3f ∷ 0x03 ∷ 0xda ∷ 0xda ∷ []) ∷ (0xf4 ∷ 0x7f ∷ 0x98 ∷ 0xe6 ∷ []) ∷
    (0x08 ∷ 0x53 ∷ 0xa9 ∷ 0xb3 ∷ []) ∷ (0xe9 ∷ 0x3a ∷ 0x93 ∷ 0x88 ∷ []) ∷
    (0xd6 ∷ 0x39 ∷ 0x49 ∷ 0x52 ∷ []) ∷ (0x22 ∷ 0x46 ∷ 0xd1 ∷ 0xb4 ∷ []) ∷
    (0x56 ∷ 0x6d ∷ 0x24 ∷ 0x20 ∷ []) ∷ (0xbf ∷ 0x57 ∷ 0xb7 ∷ 0xa8 ∷ []) ∷
    (0x69 ∷ 0x6e ∷ 0xfe ∷ 0xfa ∷ []) ∷ (0x4b ∷ 0x28 ∷ 0x2f ∷ 0x4e ∷ []) ∷
    (0x6a ∷ 0x78 ∷ 0x0b ∷ 0x93 ∷ []) ∷ (0xd5 ∷ 0x2f ∷ 0xbc ∷ 0x3b ∷ []) ∷
    (0xbc ∷ 0x41 ∷ 0x42 ∷ 0xc1 ∷ []) ∷ (0xf7 ∷ 0x69 ∷ 0x6d ∷ 0x8f ∷ []) ∷
    (0x83 ∷ 0x44 ∷ 0x78 ∷ 0xfb ∷ []) ∷ (0x56 ∷ 0x6b ∷ 0xc4 ∷ 0xc0 ∷ []) ∷
    (0xea ∷ 0x2a ∷ 0x86 ∷ 0x01 ∷ []) ∷ (0x1d ∷ 0x43 ∷ 0xeb ∷ 0x8e ∷ []) ∷
    (0xb9 ∷ 0xad ∷ 0x61 ∷ 0x5f ∷ []) ∷ (0xef ∷ 0xc6 ∷ 0xa5 ∷ 0x9f ∷ []) ∷
    (0x05 ∷ 0xec ∷ 0x23 ∷ 0x9e ∷ []) ∷ (0x18 ∷ 0xaf ∷ 0xc8 ∷ 0x10 ∷ []) ∷
    (0x80 ∷ 0x45 ∷ 0xab ∷ 0xf2 ∷ []) ∷ (0x6f ∷ 0x83 ∷ 0x0e ∷ 0x6d ∷ []) ∷
    (0x6a ∷ 0x6f ∷ 0x2d ∷ 0xf3 ∷ []) ∷ (0x72 ∷ 0xc0 ∷ 0xe5 ∷ 0xe3 ∷ []) ∷
    (0xba ∷ 0x9c ∷ 0xba ∷ 0xb2 ∷ []) ∷ (0xd5 ∷ 0x1f ∷ 0xb4 ∷ 0xdf ∷ []) ∷
    (0xbf ∷ 0x70 ∷ 0x99 ∷ 0x2c ∷ []) ∷ (0xcd ∷ 0xb0 ∷ 0x7c ∷ 0xcf ∷ []) ∷
    (0x46 ∷ 0x8c ∷ 0x30 ∷ 0x0f ∷ []) ∷ (0x93 ∷ 0x93 ∷ 0x84 ∷ 0xd0 ∷ []) ∷
    (0x2c ∷ 0xe3 ∷ 0x1d ∷ 0xfc ∷ []) ∷ (0xe1 ∷ 0x53 ∷ 0x61 ∷ 0x33 ∷ []) ∷
    (0x9d ∷ 0x63 ∷ 0xf3 ∷ 0xf7 ∷ []) ∷ (0x0e ∷ 0xf0 ∷ 0x77 ∷ 0x27 ∷ []) ∷
    (0x22 ∷ 0x13 ∷ 0x6a ∷ 0xdb ∷ []) ∷ (0xc3 ∷ 0x40 ∷ 0x0b ∷ 0xe8 ∷ []) ∷ []

-- the schedule of the key, as the definition computes it, consists of these words
key_schedule : schedule_by_table key ≡ key_words
unfolding key key_words words_by_table xor_word rcon residue
key_schedule = refl

-- the key is a key of AES
key_is_key : IsKey key
unfolding key
key_is_key = record { length_is = inl refl; bytes = all_small key refl }

-- the nonce
unfoldable nonce : List ℕ
nonce = 0xb3 ∷ 0xd8 ∷ 0xcc ∷ 0x01 ∷ 0x7c ∷ 0xbb ∷ 0x89 ∷ 0xb3 ∷ 0x9e ∷ 0x0f ∷ 0x67 ∷ 0xe2 ∷ []

-- the associated data
unfoldable aad : List ℕ
aad =
    0x24 ∷ 0x82 ∷ 0x56 ∷ 0x02 ∷ 0xbd ∷ 0x12 ∷ 0xa9 ∷ 0x84 ∷ 0xe0 ∷ 0x09 ∷ 0x2d ∷ 0x3e ∷ 0x44 ∷ 0x8e ∷ 0xda
    ∷ 0x5f ∷ []

-- the text
unfoldable text : List ℕ
text =
    0xc3 ∷ 0xb3 ∷ 0xc4 ∷ 0x1f ∷ 0x11 ∷ 0x3a ∷ 0x31 ∷ 0xb7 ∷ 0x3d ∷ 0x9a ∷ 0x5c ∷ 0xd4 ∷ 0x32 ∷ 0x10 ∷ 0x30
    ∷ 0x69 ∷ []

-- the ciphertext of the text
unfoldable ciphertext : List ℕ
ciphertext =
    0x93 ∷ 0xfe ∷ 0x7d ∷ 0x9e ∷ 0x9b ∷ 0xfd ∷ 0x10 ∷ 0x34 ∷ 0x8a ∷ 0x56 ∷ 0x06 ∷ 0xe5 ∷ 0xca ∷ 0xfa ∷ 0x73
    ∷ 0x54 ∷ []

-- the tag of the text
unfoldable tag : List ℕ
tag =
    0x00 ∷ 0x32 ∷ 0xa1 ∷ 0xdc ∷ 0x85 ∷ 0xf1 ∷ 0xc9 ∷ 0x78 ∷ 0x69 ∷ 0x25 ∷ 0xa2 ∷ 0xe7 ∷ 0x1d ∷ 0x82 ∷ 0x72
    ∷ 0xdd ∷ []

-- the block whose cipher is the key of GHASH
zero_block : List ℕ
zero_block =
    0x00 ∷ 0x00 ∷ 0x00 ∷ 0x00 ∷ 0x00 ∷ 0x00 ∷ 0x00 ∷ 0x00 ∷ 0x00 ∷ 0x00 ∷ 0x00 ∷ 0x00 ∷ 0x00 ∷ 0x00 ∷ 0x00
    ∷ 0x00 ∷ []

-- the cipher of that block
zero_ciphered : List ℕ
zero_ciphered =
    0x30 ∷ 0x70 ∷ 0xd7 ∷ 0xac ∷ 0xed ∷ 0xe7 ∷ 0x8a ∷ 0x3f ∷ 0xb0 ∷ 0xe0 ∷ 0x21 ∷ 0x73 ∷ 0x93 ∷ 0xc5 ∷ 0xfb
    ∷ 0xc6 ∷ []

-- the definition computes that cipher
zero_is : cipher key zero_block ≡ zero_ciphered
unfolding key key_words zero_block zero_ciphered cipher_computed rounds_computed add_round_key shift_rows
    sub_by_table mix_by_doubling
zero_is =
    let block : IsBlock zero_block = record { length_is = refl; bytes = all_small zero_block refl } in
    cipher_is_computed key zero_block key_words key_is_key block key_schedule ∙ refl

-- J0
first_block : List ℕ
first_block =
    0xb3 ∷ 0xd8 ∷ 0xcc ∷ 0x01 ∷ 0x7c ∷ 0xbb ∷ 0x89 ∷ 0xb3 ∷ 0x9e ∷ 0x0f ∷ 0x67 ∷ 0xe2 ∷ 0x00 ∷ 0x00 ∷ 0x00
    ∷ 0x01 ∷ []

-- the cipher of J0
first_ciphered : List ℕ
first_ciphered =
    0x67 ∷ 0x7e ∷ 0xc2 ∷ 0x16 ∷ 0xa3 ∷ 0xa8 ∷ 0x29 ∷ 0x87 ∷ 0x14 ∷ 0xe6 ∷ 0xed ∷ 0xa6 ∷ 0x3f ∷ 0x80 ∷ 0xef
    ∷ 0xb9 ∷ []

-- the definition computes that cipher
first_is : cipher key first_block ≡ first_ciphered
unfolding key key_words first_block first_ciphered cipher_computed rounds_computed add_round_key shift_rows
    sub_by_table mix_by_doubling
first_is =
    let block : IsBlock first_block = record { length_is = refl; bytes = all_small first_block refl } in
    cipher_is_computed key first_block key_words key_is_key block key_schedule ∙ refl

-- inc32(J0)
second_block : List ℕ
second_block =
    0xb3 ∷ 0xd8 ∷ 0xcc ∷ 0x01 ∷ 0x7c ∷ 0xbb ∷ 0x89 ∷ 0xb3 ∷ 0x9e ∷ 0x0f ∷ 0x67 ∷ 0xe2 ∷ 0x00 ∷ 0x00 ∷ 0x00
    ∷ 0x02 ∷ []

-- the cipher of inc32(J0)
second_ciphered : List ℕ
second_ciphered =
    0x50 ∷ 0x4d ∷ 0xb9 ∷ 0x81 ∷ 0x8a ∷ 0xc7 ∷ 0x21 ∷ 0x83 ∷ 0xb7 ∷ 0xcc ∷ 0x5a ∷ 0x31 ∷ 0xf8 ∷ 0xea ∷ 0x43
    ∷ 0x3d ∷ []

-- the definition computes that cipher
second_is : cipher key second_block ≡ second_ciphered
unfolding key key_words second_block second_ciphered cipher_computed rounds_computed add_round_key shift_rows
    sub_by_table mix_by_doubling
second_is =
    let block : IsBlock second_block = record { length_is = refl; bytes = all_small second_block refl } in
    cipher_is_computed key second_block key_words key_is_key block key_schedule ∙ refl

-- the definition computes this ciphertext of the text
ciphertext_is : masked (gcm_mask key nonce) 0 text ≡ ciphertext
unfolding counter_byte up_be be j0 masked nonce text ciphertext second_block second_ciphered
ciphertext_is = ap (λ b. masked (λ i. get_or b i 0) 0 text) second_is ∙ refl

-- the key of GHASH is the cipher of the zero block
hash_key_is : hash_key key ≡ zero_ciphered
unfolding hash_key zero_block
hash_key_is = zero_is

-- if the sum so far is s, the next block is x, and t is s plus x, times the key, then t is the sum over one block more
ghash_next : (h m s x t : List ℕ) (n : ℕ) → coefficient (ghash_sum h m n) ≡ coefficient (g s)
    → block_at m n ≡ x
    → coefficient (residue ghash_modulus (product (sum (g s) (g x)) (g h))) ≡ coefficient (g t)
    → coefficient (ghash_sum h m (suc n)) ≡ coefficient (g t)
ghash_next h m s x t n held is next =
    let b : List Bool = g (block_at m n) in
    ghash_step h m n
    ∙ times_same ghash_modulus (sum (ghash_sum h m n) b) (sum (g s) b) (g h) refl
    (sum_is (ghash_sum h m n) b ∙ ap (λ c. sum_of c (coefficient b)) held ∙ sym (sum_is (g s) b))
    ∙ ap (λ y. coefficient (residue ghash_modulus (product (sum (g s) (g y)) (g h)))) is
    ∙ next

-- the authenticated bytes
unfoldable authenticated : List ℕ
authenticated =
    0x24 ∷ 0x82 ∷ 0x56 ∷ 0x02 ∷ 0xbd ∷ 0x12 ∷ 0xa9 ∷ 0x84 ∷ 0xe0 ∷ 0x09 ∷ 0x2d ∷ 0x3e ∷ 0x44 ∷ 0x8e ∷ 0xda
    ∷ 0x5f ∷
    0x93 ∷ 0xfe ∷ 0x7d ∷ 0x9e ∷ 0x9b ∷ 0xfd ∷ 0x10 ∷ 0x34 ∷ 0x8a ∷ 0x56 ∷ 0x06 ∷ 0xe5 ∷ 0xca ∷ 0xfa ∷ 0x73
    ∷ 0x54 ∷
    0x00 ∷ 0x00 ∷ 0x00 ∷ 0x00 ∷ 0x00 ∷ 0x00 ∷ 0x00 ∷ 0x80 ∷ 0x00 ∷ 0x00 ∷ 0x00 ∷ 0x00 ∷ 0x00 ∷ 0x00 ∷ 0x00
    ∷ 0x80 ∷ []

-- the definition joins the authenticated bytes to these
authenticated_is : gcm_authenticated aad ciphertext ≡ authenticated
unfolding gcm_authenticated aad ciphertext authenticated
authenticated_is = refl

-- the sum over the first block
unfoldable sum1 : List ℕ
sum1 =
    0x0e ∷ 0x3d ∷ 0x45 ∷ 0x18 ∷ 0xe3 ∷ 0x65 ∷ 0x63 ∷ 0x7e ∷ 0xe2 ∷ 0x5b ∷ 0xf5 ∷ 0xa6 ∷ 0x33 ∷ 0x3a ∷ 0x92
    ∷ 0xcd ∷ []

-- the first block of the authenticated bytes
unfoldable block1 : List ℕ
block1 =
    0x24 ∷ 0x82 ∷ 0x56 ∷ 0x02 ∷ 0xbd ∷ 0x12 ∷ 0xa9 ∷ 0x84 ∷ 0xe0 ∷ 0x09 ∷ 0x2d ∷ 0x3e ∷ 0x44 ∷ 0x8e ∷ 0xda
    ∷ 0x5f ∷ []

-- block 1 times the key is sum1
step1 : coefficient (residue ghash_modulus (product (sum (g []) (g block1)) (g zero_ciphered)))
    ≡ coefficient (g sum1)
unfolding zero_ciphered block1 sum1 g sum
step1 =
    computed ghash_modulus 128 (sum (g []) (g block1)) (g zero_ciphered) (g sum1) refl refl
    (omega arith) (omega arith) refl

-- the definition's sum over the first block is sum1
sum1_is : coefficient (ghash_sum zero_ciphered authenticated 1) ≡ coefficient (g sum1)
unfolding authenticated block1 ghash_sum sum_of_first g
sum1_is = ghash_next zero_ciphered authenticated [] block1 sum1 0 refl refl step1

-- the sum over the first 2 blocks
unfoldable sum2 : List ℕ
sum2 =
    0x0b ∷ 0x9f ∷ 0x6e ∷ 0xa7 ∷ 0x91 ∷ 0x3e ∷ 0x32 ∷ 0xfe ∷ 0x65 ∷ 0x72 ∷ 0x12 ∷ 0xde ∷ 0xab ∷ 0xb3 ∷ 0xd3
    ∷ 0x83 ∷ []

-- the second block of the authenticated bytes
unfoldable block2 : List ℕ
block2 =
    0x93 ∷ 0xfe ∷ 0x7d ∷ 0x9e ∷ 0x9b ∷ 0xfd ∷ 0x10 ∷ 0x34 ∷ 0x8a ∷ 0x56 ∷ 0x06 ∷ 0xe5 ∷ 0xca ∷ 0xfa ∷ 0x73
    ∷ 0x54 ∷ []

-- sum1 plus block 2, times the key, is sum2
step2 : coefficient (residue ghash_modulus (product (sum (g sum1) (g block2)) (g zero_ciphered)))
    ≡ coefficient (g sum2)
unfolding zero_ciphered sum1 block2 sum2 g sum
step2 =
    computed ghash_modulus 128 (sum (g sum1) (g block2)) (g zero_ciphered) (g sum2) refl refl
    (omega arith) (omega arith) refl

-- the definition's sum over the first 2 blocks is sum2
sum2_is : coefficient (ghash_sum zero_ciphered authenticated 2) ≡ coefficient (g sum2)
unfolding authenticated block2
sum2_is = ghash_next zero_ciphered authenticated sum1 block2 sum2 1 sum1_is refl step2

-- the sum over the first 3 blocks
unfoldable sum3 : List ℕ
sum3 =
    0x67 ∷ 0x4c ∷ 0x63 ∷ 0xca ∷ 0x26 ∷ 0x59 ∷ 0xe0 ∷ 0xff ∷ 0x7d ∷ 0xc3 ∷ 0x4f ∷ 0x41 ∷ 0x22 ∷ 0x02 ∷ 0x9d
    ∷ 0x64 ∷ []

-- the third block of the authenticated bytes
unfoldable block3 : List ℕ
block3 =
    0x00 ∷ 0x00 ∷ 0x00 ∷ 0x00 ∷ 0x00 ∷ 0x00 ∷ 0x00 ∷ 0x80 ∷ 0x00 ∷ 0x00 ∷ 0x00 ∷ 0x00 ∷ 0x00 ∷ 0x00 ∷ 0x00
    ∷ 0x80 ∷ []

-- sum2 plus block 3, times the key, is sum3
step3 : coefficient (residue ghash_modulus (product (sum (g sum2) (g block3)) (g zero_ciphered)))
    ≡ coefficient (g sum3)
unfolding zero_ciphered sum2 block3 sum3 g sum
step3 =
    computed ghash_modulus 128 (sum (g sum2) (g block3)) (g zero_ciphered) (g sum3) refl refl
    (omega arith) (omega arith) refl

-- the definition's sum over the first 3 blocks is sum3
sum3_is : coefficient (ghash_sum zero_ciphered authenticated 3) ≡ coefficient (g sum3)
unfolding authenticated block3
sum3_is = ghash_next zero_ciphered authenticated sum2 block3 sum3 2 sum2_is refl step3

-- GHASH of the authenticated bytes is sum3
ghash_is : ghash zero_ciphered authenticated ≡ sum3
unfolding authenticated sum3
ghash_is =
    let block : IsBlock sum3 = record { length_is = refl; bytes = all_small sum3 refl } in
    let same : IsGhash zero_ciphered authenticated sum3 =
    record { is_block = block; sum_is = λ k. ap (λ f. f k) (sym sum3_is) } in
    sym ((ghash_is_the_only zero_ciphered authenticated).1 sum3 same)

-- sum3 XORed with the cipher of J0 is the tag
last_is : xor_bytes first_ciphered sum3 ≡ tag
unfolding first_ciphered sum3 tag xor_bytes
last_is = refl

-- the definition computes this tag of the text
tag_is : tag_by ByGcm key nonce aad text ≡ tag
unfolding tag_by tag_over_by j0 nonce first_block
tag_is =
    ap (tag_over_by ByGcm key nonce aad) ciphertext_is
    ∙ ap₂ (λ e h. xor_bytes e (ghash h (gcm_authenticated aad ciphertext))) first_is hash_key_is
    ∙ ap (λ m. xor_bytes first_ciphered (ghash zero_ciphered m)) authenticated_is
    ∙ ap (xor_bytes first_ciphered) ghash_is
    ∙ last_is

-- the sealing of the text is this ciphertext and this tag
one_sealing : sealing (record { suite = Aes128Gcm; key = key; nonce = nonce; aad = aad }) text
    ≡ ciphertext ++ tag
unfolding sealing tag_of mask mask_by
one_sealing = ap₂ (λ c t. c ++ t) ciphertext_is tag_is
