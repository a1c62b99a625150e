-- A sealing of AES-128-GCM-SIV with associated data, computed by the definitions: that of RFC 8452, C.1, with a text of eight
-- bytes and associated data of one byte.
use Rattle.std.proofs.Common.{◌≡◌, ℕ, ◌+◌, ◌*◌, Bool, List, [], ◌∷◌, ◌++◌, take, map, get_or, refl, ap, ap₂}
use Rattle.std.proofs.Common.{◌∙◌, inl, arith}
use Rattle.std.specs.List.{range_with_len}
use Rattle.octets.specs.Bits.{v, bytes_of_v, number}
use Rattle.octets.specs.Bytes.{IsBlock, le, xor_bytes}
use Rattle.octets.specs.Masked.{masked}
use Rattle.octets.specs.Polynomial.{coefficient, sum, residue}
use Rattle.aes.specs.Schedule.{xor_word, rcon}
use Rattle.aes.specs.Cipher.{shift_rows, add_round_key, cipher, IsKey}
use Rattle.aes.specs.Counters.{up_le, counter_byte}
use Rattle.aes.proofs.Small.{all_small}
use Rattle.aes.proofs.Computed.{words_by_table, schedule_by_table, sub_by_table, mix_by_doubling}
use Rattle.aes.proofs.Computed.{rounds_computed, cipher_computed, cipher_is_computed}
use Rattle.gf128.specs.Polyval.{dot, polyval_sum, polyval}
use Rattle.aead.specs.declared.suite.Suite.TheVariants.{Aes128GcmSiv}
use Rattle.aead.specs.Suites.{ByGcmSiv}
use Rattle.aead.specs.Sealing.{key_part, authentication_key, encryption_key, siv_authenticated, last_byte_by}
use Rattle.aead.specs.Sealing.{tag_block, counter_block, mask_by, mask, tag_over_by, tag_by, tag_of, sealing}
use Rattle.aead.proofs.Computed.{dot_computed, dot_same}

-- the key
unfoldable key : List ℕ
key =
    0x01 ∷ 0x00 ∷ 0x00 ∷ 0x00 ∷ 0x00 ∷ 0x00 ∷ 0x00 ∷ 0x00 ∷ 0x00 ∷ 0x00 ∷ 0x00 ∷ 0x00 ∷ 0x00 ∷ 0x00 ∷ 0x00
    ∷ 0x00 ∷ []

-- the words of the key's schedule
unfoldable key_words : List (List ℕ)
key_words =
    (0x01 ∷ 0x00 ∷ 0x00 ∷ 0x00 ∷ []) ∷ (0x00 ∷ 0x00 ∷ 0x00 ∷ 0x00 ∷ []) ∷
    (0x00 ∷ 0x00 ∷ 0x00 ∷ 0x00 ∷ []) ∷ (0x00 ∷ 0x00 ∷ 0x00 ∷ 0x00 ∷ []) ∷
    (0x63 ∷ 0x63 ∷ 0x63 ∷ 0x63 ∷ []) ∷ (0x63 ∷ 0x63 ∷ 0x63 ∷ 0x63 ∷ []) ∷
    (0x63 ∷ 0x63 ∷ 0x63 ∷ 0x63 ∷ []) ∷ (0x63 ∷ 0x63 ∷ 0x63 ∷ 0x63 ∷ []) ∷
    (0x9a ∷ 0x98 ∷ 0x98 ∷ 0x98 ∷ []) ∷ (0xf9 ∷ 0xfb ∷ 0xfb ∷ 0xfb ∷ []) ∷
    (0x9a ∷ 0x98 ∷ 0x98 ∷ 0x98 ∷ []) ∷ (0xf9 ∷ 0xfb ∷ 0xfb ∷ 0xfb ∷ []) ∷
    (0x91 ∷ 0x97 ∷ 0x97 ∷ 0x01 ∷ []) ∷ (0x68 ∷ 0x6c ∷ 0x6c ∷ 0xfa ∷ []) ∷
    (0xf2 ∷ 0xf4 ∷ 0xf4 ∷ 0x62 ∷ []) ∷ (0x0b ∷ 0x0f ∷ 0x0f ∷ 0x99 ∷ []) ∷
    (0xef ∷ 0xe1 ∷ 0x79 ∷ 0x2a ∷ []) ∷ (0x87 ∷ 0x8d ∷ 0x15 ∷ 0xd0 ∷ []) ∷
    (0x75 ∷ 0x79 ∷ 0xe1 ∷ 0xb2 ∷ []) ∷ (0x7e ∷ 0x76 ∷ 0xee ∷ 0x2b ∷ []) ∷
    (0xc7 ∷ 0xc9 ∷ 0x88 ∷ 0xd9 ∷ []) ∷ (0x40 ∷ 0x44 ∷ 0x9d ∷ 0x09 ∷ []) ∷
    (0x35 ∷ 0x3d ∷ 0x7c ∷ 0xbb ∷ []) ∷ (0x4b ∷ 0x4b ∷ 0x92 ∷ 0x90 ∷ []) ∷
    (0x54 ∷ 0x86 ∷ 0xe8 ∷ 0x6a ∷ []) ∷ (0x14 ∷ 0xc2 ∷ 0x75 ∷ 0x63 ∷ []) ∷
    (0x21 ∷ 0xff ∷ 0x09 ∷ 0xd8 ∷ []) ∷ (0x6a ∷ 0xb4 ∷ 0x9b ∷ 0x48 ∷ []) ∷
    (0x99 ∷ 0x92 ∷ 0xba ∷ 0x68 ∷ []) ∷ (0x8d ∷ 0x50 ∷ 0xcf ∷ 0x0b ∷ []) ∷
    (0xac ∷ 0xaf ∷ 0xc6 ∷ 0xd3 ∷ []) ∷ (0xc6 ∷ 0x1b ∷ 0x5d ∷ 0x9b ∷ []) ∷
    (0xb6 ∷ 0xde ∷ 0xae ∷ 0xdc ∷ []) ∷ (0x3b ∷ 0x8e ∷ 0x61 ∷ 0xd7 ∷ []) ∷
    (0x97 ∷ 0x21 ∷ 0xa7 ∷ 0x04 ∷ []) ∷ (0x51 ∷ 0x3a ∷ 0xfa ∷ 0x9f ∷ []) ∷
    (0x2d ∷ 0xf3 ∷ 0x75 ∷ 0x0d ∷ []) ∷ (0x16 ∷ 0x7d ∷ 0x14 ∷ 0xda ∷ []) ∷
    (0x81 ∷ 0x5c ∷ 0xb3 ∷ 0xde ∷ []) ∷ (0xd0 ∷ 0x66 ∷ 0x49 ∷ 0x41 ∷ []) ∷
    (0x28 ∷ 0xc8 ∷ 0xf6 ∷ 0x7d ∷ []) ∷ (0x3e ∷ 0xb5 ∷ 0xe2 ∷ 0xa7 ∷ []) ∷
    (0xbf ∷ 0xe9 ∷ 0x51 ∷ 0x79 ∷ []) ∷ (0x6f ∷ 0x8f ∷ 0x18 ∷ 0x38 ∷ []) ∷ []

-- the schedule of the key, as the definition computes it, consists of these words
key_schedule : schedule_by_table key ≡ key_words
unfolding key key_words words_by_table xor_word rcon residue
key_schedule = refl

-- the key is a key of AES
key_is_key : IsKey key
unfolding key
key_is_key = record { length_is = inl refl; bytes = all_small key refl }

-- the derived encryption key
unfoldable derived : List ℕ
derived =
    0x40 ∷ 0x04 ∷ 0xa0 ∷ 0xdc ∷ 0xd8 ∷ 0x62 ∷ 0xf2 ∷ 0xa5 ∷ 0x73 ∷ 0x60 ∷ 0x21 ∷ 0x9d ∷ 0x2d ∷ 0x44 ∷ 0xef
    ∷ 0x6c ∷ []

-- the words of the derived key's schedule
unfoldable derived_words : List (List ℕ)
derived_words =
    (0x40 ∷ 0x04 ∷ 0xa0 ∷ 0xdc ∷ []) ∷ (0xd8 ∷ 0x62 ∷ 0xf2 ∷ 0xa5 ∷ []) ∷
    (0x73 ∷ 0x60 ∷ 0x21 ∷ 0x9d ∷ []) ∷ (0x2d ∷ 0x44 ∷ 0xef ∷ 0x6c ∷ []) ∷
    (0x5a ∷ 0xdb ∷ 0xf0 ∷ 0x04 ∷ []) ∷ (0x82 ∷ 0xb9 ∷ 0x02 ∷ 0xa1 ∷ []) ∷
    (0xf1 ∷ 0xd9 ∷ 0x23 ∷ 0x3c ∷ []) ∷ (0xdc ∷ 0x9d ∷ 0xcc ∷ 0x50 ∷ []) ∷
    (0x06 ∷ 0x90 ∷ 0xa3 ∷ 0x82 ∷ []) ∷ (0x84 ∷ 0x29 ∷ 0xa1 ∷ 0x23 ∷ []) ∷
    (0x75 ∷ 0xf0 ∷ 0x82 ∷ 0x1f ∷ []) ∷ (0xa9 ∷ 0x6d ∷ 0x4e ∷ 0x4f ∷ []) ∷
    (0x3e ∷ 0xbf ∷ 0x27 ∷ 0x51 ∷ []) ∷ (0xba ∷ 0x96 ∷ 0x86 ∷ 0x72 ∷ []) ∷
    (0xcf ∷ 0x66 ∷ 0x04 ∷ 0x6d ∷ []) ∷ (0x66 ∷ 0x0b ∷ 0x4a ∷ 0x22 ∷ []) ∷
    (0x1d ∷ 0x69 ∷ 0xb4 ∷ 0x62 ∷ []) ∷ (0xa7 ∷ 0xff ∷ 0x32 ∷ 0x10 ∷ []) ∷
    (0x68 ∷ 0x99 ∷ 0x36 ∷ 0x7d ∷ []) ∷ (0x0e ∷ 0x92 ∷ 0x7c ∷ 0x5f ∷ []) ∷
    (0x42 ∷ 0x79 ∷ 0x7b ∷ 0xc9 ∷ []) ∷ (0xe5 ∷ 0x86 ∷ 0x49 ∷ 0xd9 ∷ []) ∷
    (0x8d ∷ 0x1f ∷ 0x7f ∷ 0xa4 ∷ []) ∷ (0x83 ∷ 0x8d ∷ 0x03 ∷ 0xfb ∷ []) ∷
    (0x3f ∷ 0x02 ∷ 0x74 ∷ 0x25 ∷ []) ∷ (0xda ∷ 0x84 ∷ 0x3d ∷ 0xfc ∷ []) ∷
    (0x57 ∷ 0x9b ∷ 0x42 ∷ 0x58 ∷ []) ∷ (0xd4 ∷ 0x16 ∷ 0x41 ∷ 0xa3 ∷ []) ∷
    (0x38 ∷ 0x81 ∷ 0x7e ∷ 0x6d ∷ []) ∷ (0xe2 ∷ 0x05 ∷ 0x43 ∷ 0x91 ∷ []) ∷
    (0xb5 ∷ 0x9e ∷ 0x01 ∷ 0xc9 ∷ []) ∷ (0x61 ∷ 0x88 ∷ 0x40 ∷ 0x6a ∷ []) ∷
    (0x7c ∷ 0x88 ∷ 0x7c ∷ 0x82 ∷ []) ∷ (0x9e ∷ 0x8d ∷ 0x3f ∷ 0x13 ∷ []) ∷
    (0x2b ∷ 0x13 ∷ 0x3e ∷ 0xda ∷ []) ∷ (0x4a ∷ 0x9b ∷ 0x7e ∷ 0xb0 ∷ []) ∷
    (0x73 ∷ 0x7b ∷ 0x9b ∷ 0x54 ∷ []) ∷ (0xed ∷ 0xf6 ∷ 0xa4 ∷ 0x47 ∷ []) ∷
    (0xc6 ∷ 0xe5 ∷ 0x9a ∷ 0x9d ∷ []) ∷ (0x8c ∷ 0x7e ∷ 0xe4 ∷ 0x2d ∷ []) ∷
    (0xb6 ∷ 0x12 ∷ 0x43 ∷ 0x30 ∷ []) ∷ (0x5b ∷ 0xe4 ∷ 0xe7 ∷ 0x77 ∷ []) ∷
    (0x9d ∷ 0x01 ∷ 0x7d ∷ 0xea ∷ []) ∷ (0x11 ∷ 0x7f ∷ 0x99 ∷ 0xc7 ∷ []) ∷ []

-- the schedule of the derived key, as the definition computes it, consists of these words
derived_schedule : schedule_by_table derived ≡ derived_words
unfolding derived derived_words words_by_table xor_word rcon residue
derived_schedule = refl

-- the derived key is a key of AES
derived_is_key : IsKey derived
unfolding derived
derived_is_key = record { length_is = inl refl; bytes = all_small derived refl }

-- the nonce
unfoldable nonce : List ℕ
nonce = 0x03 ∷ 0x00 ∷ 0x00 ∷ 0x00 ∷ 0x00 ∷ 0x00 ∷ 0x00 ∷ 0x00 ∷ 0x00 ∷ 0x00 ∷ 0x00 ∷ 0x00 ∷ []

-- the associated data
unfoldable aad : List ℕ
aad = 0x01 ∷ []

-- the text
unfoldable text : List ℕ
text = 0x02 ∷ 0x00 ∷ 0x00 ∷ 0x00 ∷ 0x00 ∷ 0x00 ∷ 0x00 ∷ 0x00 ∷ []

-- the ciphertext of the text
unfoldable ciphertext : List ℕ
ciphertext = 0x1e ∷ 0x6d ∷ 0xab ∷ 0xa3 ∷ 0x56 ∷ 0x69 ∷ 0xf4 ∷ 0x27 ∷ []

-- the tag of the text
unfoldable tag : List ℕ
tag =
    0x3b ∷ 0x0a ∷ 0x1a ∷ 0x25 ∷ 0x60 ∷ 0x96 ∷ 0x9c ∷ 0xdf ∷ 0x79 ∷ 0x0d ∷ 0x99 ∷ 0x75 ∷ 0x9a ∷ 0xbd ∷ 0x15
    ∷ 0x08 ∷ []

-- the derived authentication key
unfoldable authentication : List ℕ
authentication =
    0xd9 ∷ 0xb3 ∷ 0x60 ∷ 0x27 ∷ 0x96 ∷ 0x94 ∷ 0x94 ∷ 0x1a ∷ 0xc5 ∷ 0xdb ∷ 0xc6 ∷ 0x98 ∷ 0x7a ∷ 0xda ∷ 0x73
    ∷ 0x77 ∷ []

-- the block from which part 0 of the derived keys is computed
part0_block : List ℕ
part0_block =
    0x00 ∷ 0x00 ∷ 0x00 ∷ 0x00 ∷ 0x03 ∷ 0x00 ∷ 0x00 ∷ 0x00 ∷ 0x00 ∷ 0x00 ∷ 0x00 ∷ 0x00 ∷ 0x00 ∷ 0x00 ∷ 0x00
    ∷ 0x00 ∷ []

-- the cipher of that block
part0_ciphered : List ℕ
part0_ciphered =
    0xd9 ∷ 0xb3 ∷ 0x60 ∷ 0x27 ∷ 0x96 ∷ 0x94 ∷ 0x94 ∷ 0x1a ∷ 0x20 ∷ 0x10 ∷ 0xbe ∷ 0x79 ∷ 0x0f ∷ 0xf8 ∷ 0x19
    ∷ 0x54 ∷ []

-- the definition computes that cipher
part0_is : cipher key part0_block ≡ part0_ciphered
unfolding key key_words part0_block part0_ciphered cipher_computed rounds_computed add_round_key shift_rows
    sub_by_table mix_by_doubling
part0_is =
    let block : IsBlock part0_block = record { length_is = refl; bytes = all_small part0_block refl } in
    cipher_is_computed key part0_block key_words key_is_key block key_schedule ∙ refl

-- the block from which part 1 of the derived keys is computed
part1_block : List ℕ
part1_block =
    0x01 ∷ 0x00 ∷ 0x00 ∷ 0x00 ∷ 0x03 ∷ 0x00 ∷ 0x00 ∷ 0x00 ∷ 0x00 ∷ 0x00 ∷ 0x00 ∷ 0x00 ∷ 0x00 ∷ 0x00 ∷ 0x00
    ∷ 0x00 ∷ []

-- the cipher of that block
part1_ciphered : List ℕ
part1_ciphered =
    0xc5 ∷ 0xdb ∷ 0xc6 ∷ 0x98 ∷ 0x7a ∷ 0xda ∷ 0x73 ∷ 0x77 ∷ 0x58 ∷ 0x56 ∷ 0x8e ∷ 0x35 ∷ 0x52 ∷ 0x05 ∷ 0x91
    ∷ 0x32 ∷ []

-- the definition computes that cipher
part1_is : cipher key part1_block ≡ part1_ciphered
unfolding key key_words part1_block part1_ciphered cipher_computed rounds_computed add_round_key shift_rows
    sub_by_table mix_by_doubling
part1_is =
    let block : IsBlock part1_block = record { length_is = refl; bytes = all_small part1_block refl } in
    cipher_is_computed key part1_block key_words key_is_key block key_schedule ∙ refl

-- the block from which part 2 of the derived keys is computed
part2_block : List ℕ
part2_block =
    0x02 ∷ 0x00 ∷ 0x00 ∷ 0x00 ∷ 0x03 ∷ 0x00 ∷ 0x00 ∷ 0x00 ∷ 0x00 ∷ 0x00 ∷ 0x00 ∷ 0x00 ∷ 0x00 ∷ 0x00 ∷ 0x00
    ∷ 0x00 ∷ []

-- the cipher of that block
part2_ciphered : List ℕ
part2_ciphered =
    0x40 ∷ 0x04 ∷ 0xa0 ∷ 0xdc ∷ 0xd8 ∷ 0x62 ∷ 0xf2 ∷ 0xa5 ∷ 0xf5 ∷ 0x59 ∷ 0xf1 ∷ 0x16 ∷ 0xbe ∷ 0xe7 ∷ 0x23
    ∷ 0x88 ∷ []

-- the definition computes that cipher
part2_is : cipher key part2_block ≡ part2_ciphered
unfolding key key_words part2_block part2_ciphered cipher_computed rounds_computed add_round_key shift_rows
    sub_by_table mix_by_doubling
part2_is =
    let block : IsBlock part2_block = record { length_is = refl; bytes = all_small part2_block refl } in
    cipher_is_computed key part2_block key_words key_is_key block key_schedule ∙ refl

-- the block from which part 3 of the derived keys is computed
part3_block : List ℕ
part3_block =
    0x03 ∷ 0x00 ∷ 0x00 ∷ 0x00 ∷ 0x03 ∷ 0x00 ∷ 0x00 ∷ 0x00 ∷ 0x00 ∷ 0x00 ∷ 0x00 ∷ 0x00 ∷ 0x00 ∷ 0x00 ∷ 0x00
    ∷ 0x00 ∷ []

-- the cipher of that block
part3_ciphered : List ℕ
part3_ciphered =
    0x73 ∷ 0x60 ∷ 0x21 ∷ 0x9d ∷ 0x2d ∷ 0x44 ∷ 0xef ∷ 0x6c ∷ 0x3d ∷ 0x19 ∷ 0x0c ∷ 0x79 ∷ 0x5f ∷ 0xe5 ∷ 0x4c
    ∷ 0x0c ∷ []

-- the definition computes that cipher
part3_is : cipher key part3_block ≡ part3_ciphered
unfolding key key_words part3_block part3_ciphered cipher_computed rounds_computed add_round_key shift_rows
    sub_by_table mix_by_doubling
part3_is =
    let block : IsBlock part3_block = record { length_is = refl; bytes = all_small part3_block refl } in
    cipher_is_computed key part3_block key_words key_is_key block key_schedule ∙ refl

-- the block whose cipher is the tag
last_block : List ℕ
last_block =
    0xb1 ∷ 0x67 ∷ 0x81 ∷ 0xe7 ∷ 0xe2 ∷ 0xc1 ∷ 0x37 ∷ 0x6f ∷ 0x96 ∷ 0xbe ∷ 0xc1 ∷ 0x95 ∷ 0xf3 ∷ 0x70 ∷ 0x9b
    ∷ 0x2a ∷ []

-- the cipher of that block
last_ciphered : List ℕ
last_ciphered =
    0x3b ∷ 0x0a ∷ 0x1a ∷ 0x25 ∷ 0x60 ∷ 0x96 ∷ 0x9c ∷ 0xdf ∷ 0x79 ∷ 0x0d ∷ 0x99 ∷ 0x75 ∷ 0x9a ∷ 0xbd ∷ 0x15
    ∷ 0x08 ∷ []

-- the definition computes that cipher
last_is : cipher derived last_block ≡ last_ciphered
unfolding derived derived_words last_block last_ciphered cipher_computed rounds_computed add_round_key
    shift_rows sub_by_table mix_by_doubling
last_is =
    let block : IsBlock last_block = record { length_is = refl; bytes = all_small last_block refl } in
    cipher_is_computed derived last_block derived_words derived_is_key block derived_schedule ∙ refl

-- the first counter block
first_counter_block : List ℕ
first_counter_block =
    0x3b ∷ 0x0a ∷ 0x1a ∷ 0x25 ∷ 0x60 ∷ 0x96 ∷ 0x9c ∷ 0xdf ∷ 0x79 ∷ 0x0d ∷ 0x99 ∷ 0x75 ∷ 0x9a ∷ 0xbd ∷ 0x15
    ∷ 0x88 ∷ []

-- the cipher of the first counter block
counter_ciphered : List ℕ
counter_ciphered =
    0x1c ∷ 0x6d ∷ 0xab ∷ 0xa3 ∷ 0x56 ∷ 0x69 ∷ 0xf4 ∷ 0x27 ∷ 0x79 ∷ 0xc8 ∷ 0x62 ∷ 0x30 ∷ 0xee ∷ 0xca ∷ 0x6f
    ∷ 0xca ∷ []

-- the definition computes that cipher
counter_is : cipher derived first_counter_block ≡ counter_ciphered
unfolding derived derived_words first_counter_block counter_ciphered cipher_computed rounds_computed
    add_round_key shift_rows sub_by_table mix_by_doubling
counter_is =
    let block : IsBlock first_counter_block =
    record { length_is = refl; bytes = all_small first_counter_block refl } in
    cipher_is_computed derived first_counter_block derived_words derived_is_key block derived_schedule ∙ refl

-- the definition computes this authentication key from key and nonce
authentication_is : authentication_key key nonce ≡ authentication
unfolding authentication_key key_part nonce authentication part0_block part1_block part0_ciphered
    part1_ciphered
authentication_is = ap₂ (λ a b. take 8 a ++ take 8 b) part0_is part1_is ∙ refl

-- the definition computes this encryption key from key and nonce
encryption_is : encryption_key key nonce ≡ derived
unfolding key encryption_key key_part nonce derived part2_block part3_block part2_ciphered part3_ciphered
encryption_is = ap₂ (λ a b. take 8 a ++ (take 8 b ++ [])) part2_is part3_is ∙ refl

-- the authenticated bytes
unfoldable authenticated : List ℕ
authenticated =
    0x01 ∷ 0x00 ∷ 0x00 ∷ 0x00 ∷ 0x00 ∷ 0x00 ∷ 0x00 ∷ 0x00 ∷ 0x00 ∷ 0x00 ∷ 0x00 ∷ 0x00 ∷ 0x00 ∷ 0x00 ∷ 0x00
    ∷ 0x00 ∷
    0x02 ∷ 0x00 ∷ 0x00 ∷ 0x00 ∷ 0x00 ∷ 0x00 ∷ 0x00 ∷ 0x00 ∷ 0x00 ∷ 0x00 ∷ 0x00 ∷ 0x00 ∷ 0x00 ∷ 0x00 ∷ 0x00
    ∷ 0x00 ∷
    0x08 ∷ 0x00 ∷ 0x00 ∷ 0x00 ∷ 0x00 ∷ 0x00 ∷ 0x00 ∷ 0x00 ∷ 0x40 ∷ 0x00 ∷ 0x00 ∷ 0x00 ∷ 0x00 ∷ 0x00 ∷ 0x00
    ∷ 0x00 ∷ []

-- the definition joins the authenticated bytes to these
authenticated_is : siv_authenticated aad text ≡ authenticated
unfolding siv_authenticated aad text authenticated
authenticated_is = refl

-- S_1, the sum after the first block
unfoldable sum1 : List ℕ
sum1 =
    0xa4 ∷ 0x07 ∷ 0x46 ∷ 0x91 ∷ 0xd1 ∷ 0xd2 ∷ 0x4e ∷ 0x5b ∷ 0x61 ∷ 0x8d ∷ 0xa5 ∷ 0x87 ∷ 0x6d ∷ 0x26 ∷ 0x9c
    ∷ 0x06 ∷ []

-- the first block of the authenticated bytes
unfoldable block1 : List ℕ
block1 =
    0x01 ∷ 0x00 ∷ 0x00 ∷ 0x00 ∷ 0x00 ∷ 0x00 ∷ 0x00 ∷ 0x00 ∷ 0x00 ∷ 0x00 ∷ 0x00 ∷ 0x00 ∷ 0x00 ∷ 0x00 ∷ 0x00
    ∷ 0x00 ∷ []

-- the dot of block 1 and the key is S_1
step1 : coefficient (dot (sum [] (v block1)) (v authentication)) ≡ coefficient (v sum1)
unfolding authentication block1 sum1 v sum
step1 =
    dot_computed (sum [] (v block1)) (v authentication) (v sum1) (omega arith) (omega arith) refl

-- the definition's sum over the first block is S_1
sum1_is : coefficient (polyval_sum authentication authenticated 1) ≡ coefficient (v sum1)
unfolding authenticated block1 polyval_sum
sum1_is = step1

-- S_2, the sum after the second block
unfoldable sum2 : List ℕ
sum2 =
    0xe5 ∷ 0x6d ∷ 0x8d ∷ 0x67 ∷ 0x0c ∷ 0x59 ∷ 0xae ∷ 0x0e ∷ 0x5e ∷ 0xd9 ∷ 0x5a ∷ 0xf9 ∷ 0x63 ∷ 0xa4 ∷ 0x60
    ∷ 0xa6 ∷ []

-- the second block of the authenticated bytes
unfoldable block2 : List ℕ
block2 =
    0x02 ∷ 0x00 ∷ 0x00 ∷ 0x00 ∷ 0x00 ∷ 0x00 ∷ 0x00 ∷ 0x00 ∷ 0x00 ∷ 0x00 ∷ 0x00 ∷ 0x00 ∷ 0x00 ∷ 0x00 ∷ 0x00
    ∷ 0x00 ∷ []

-- the dot of S_1 plus block 2 and the key is S_2
step2 : coefficient (dot (sum (v sum1) (v block2)) (v authentication)) ≡ coefficient (v sum2)
unfolding authentication sum1 block2 sum2 v sum
step2 =
    dot_computed (sum (v sum1) (v block2)) (v authentication) (v sum2) (omega arith) (omega arith) refl

-- the definition's sum over the first 2 blocks is S_2
sum2_is : coefficient (polyval_sum authentication authenticated 2) ≡ coefficient (v sum2)
unfolding authenticated block2 polyval_sum
sum2_is =
    dot_same (polyval_sum authentication authenticated 1) (v sum1) (v block2) (v authentication)
    sum1_is
    ∙ step2

-- S_3, the sum after the third block
unfoldable sum3 : List ℕ
sum3 =
    0xb2 ∷ 0x67 ∷ 0x81 ∷ 0xe7 ∷ 0xe2 ∷ 0xc1 ∷ 0x37 ∷ 0x6f ∷ 0x96 ∷ 0xbe ∷ 0xc1 ∷ 0x95 ∷ 0xf3 ∷ 0x70 ∷ 0x9b
    ∷ 0x2a ∷ []

-- the third block of the authenticated bytes
unfoldable block3 : List ℕ
block3 =
    0x08 ∷ 0x00 ∷ 0x00 ∷ 0x00 ∷ 0x00 ∷ 0x00 ∷ 0x00 ∷ 0x00 ∷ 0x40 ∷ 0x00 ∷ 0x00 ∷ 0x00 ∷ 0x00 ∷ 0x00 ∷ 0x00
    ∷ 0x00 ∷ []

-- the dot of S_2 plus block 3 and the key is S_3
step3 : coefficient (dot (sum (v sum2) (v block3)) (v authentication)) ≡ coefficient (v sum3)
unfolding authentication sum2 block3 sum3 v sum
step3 =
    dot_computed (sum (v sum2) (v block3)) (v authentication) (v sum3) (omega arith) (omega arith) refl

-- the definition's sum over the first 3 blocks is S_3
sum3_is : coefficient (polyval_sum authentication authenticated 3) ≡ coefficient (v sum3)
unfolding authenticated block3 polyval_sum
sum3_is =
    dot_same (polyval_sum authentication authenticated 2) (v sum2) (v block3) (v authentication)
    sum2_is
    ∙ step3

-- the bytes of the polynomial S_3 are these
written : bytes_of_v 16 (v sum3) ≡ sum3
unfolding sum3 v bytes_of_v
written = refl

-- POLYVAL of the authenticated bytes is S_3
polyval_is : polyval authentication authenticated ≡ sum3
unfolding authenticated polyval bytes_of_v
polyval_is =
    ap (λ (f : ℕ → Bool). map (λ i. number (map (λ j. f (8 * i + j)) (range_with_len 0 8)))
    (range_with_len 0 16)) sum3_is
    ∙ written

-- the block whose cipher is the tag, computed from S_3 and the nonce, is `last_block`
last_is_of : tag_block sum3 nonce ≡ last_block
unfolding sum3 nonce last_block tag_block last_byte_by xor_bytes
last_is_of = refl

-- the cipher of `last_block` is the tag
last_cipher : last_ciphered ≡ tag
unfolding last_ciphered tag
last_cipher = refl

-- the definition computes this tag of the text
tag_is : tag_by ByGcmSiv key nonce aad text ≡ tag
unfolding tag_by tag_over_by
tag_is =
    ap₂ (λ e a. cipher e (tag_block (polyval a (siv_authenticated aad text)) nonce)) encryption_is
    authentication_is
    ∙ ap (λ m. cipher derived (tag_block (polyval authentication m) nonce)) authenticated_is
    ∙ ap (λ s. cipher derived (tag_block s nonce)) polyval_is
    ∙ ap (cipher derived) last_is_of
    ∙ last_is
    ∙ last_cipher

-- the definition computes this ciphertext of the text under the tag
ciphertext_is : masked (mask_by ByGcmSiv key nonce tag) 0 text ≡ ciphertext
unfolding mask_by counter_byte up_le le counter_block last_byte_by masked tag text ciphertext
    first_counter_block counter_ciphered
ciphertext_is =
    ap (λ e. masked (counter_byte up_le e (counter_block tag)) 0 text) encryption_is
    ∙ (ap (λ b. masked (λ i. get_or b i 0) 0 text) counter_is ∙ refl)

-- the sealing of the text is this ciphertext and this tag
one_sealing : sealing (record { suite = Aes128GcmSiv; key = key; nonce = nonce; aad = aad }) text
    ≡ ciphertext ++ tag
unfolding sealing tag_of mask
one_sealing =
    ap (λ t. masked (mask_by ByGcmSiv key nonce t) 0 text ++ t) tag_is
    ∙ ap (λ c. c ++ tag) ciphertext_is
