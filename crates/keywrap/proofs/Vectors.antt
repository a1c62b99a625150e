-- Published vectors, computed by the definitions.
use Rattle.std.proofs.Common.{◌≡◌, ℕ, List, [], ◌∷◌, ◌++◌, take, drop, length, refl, sym, ap, ◌∙◌, inl, inr}
use Rattle.std.proofs.Common.{lit≤, lit<}
use Rattle.std.specs.Int.{bytes_high_first}
use Rattle.octets.specs.Polynomial.{residue}
use Rattle.octets.specs.Bytes.{IsBlock, xor_bytes}
use Rattle.aes.specs.Schedule.{xor_word, rcon}
use Rattle.aes.specs.Cipher.{shift_rows, add_round_key, cipher, IsKey}
use Rattle.aes.proofs.Small.{all_small}
use Rattle.aes.proofs.Vectors.{key128, words128, schedule128, is_key128, text}
use Rattle.aes.proofs.Computed.{words_by_table, schedule_by_table, sub_by_table, mix_by_doubling}
use Rattle.aes.proofs.Computed.{rounds_computed, cipher_computed, cipher_is_computed}
use Rattle.keywrap.specs.Wrapping.{step, steps, Unwrapped}
use Rattle.keywrap.specs.Padded.{alternative_value, padded, transformed, UnwrappedPadded}
use Rattle.keywrap.proofs.PaddedTexts.{transformed_one}

-- ---- RFC 3394, 4.1: the register at its beginning
s0 : List ℕ
s0 =
    0xa6 ∷ 0xa6 ∷ 0xa6 ∷ 0xa6 ∷ 0xa6 ∷ 0xa6 ∷ 0xa6 ∷ 0xa6 ∷ 0x00 ∷ 0x11 ∷ 0x22 ∷ 0x33 ∷ 0x44 ∷ 0x55 ∷ 0x66
    ∷ 0x77 ∷
    0x88 ∷ 0x99 ∷ 0xaa ∷ 0xbb ∷ 0xcc ∷ 0xdd ∷ 0xee ∷ 0xff ∷ []

-- the register after step 1
s1 : List ℕ
s1 =
    0xf4 ∷ 0x74 ∷ 0x00 ∷ 0x52 ∷ 0xe8 ∷ 0x2a ∷ 0x22 ∷ 0x50 ∷ 0x88 ∷ 0x99 ∷ 0xaa ∷ 0xbb ∷ 0xcc ∷ 0xdd ∷ 0xee
    ∷ 0xff ∷
    0x74 ∷ 0xce ∷ 0x86 ∷ 0xfb ∷ 0xd7 ∷ 0xb8 ∷ 0x05 ∷ 0xe7 ∷ []

step1 : step key128 1 s0 ≡ s1
unfolding key128 words128 cipher_computed rounds_computed add_round_key shift_rows sub_by_table
    mix_by_doubling s0 s1 step xor_bytes
step1 =
    let block : IsBlock (take 16 s0) = record { length_is = refl; bytes = all_small (take 16 s0) refl } in
    ap (λ b. xor_bytes (take 8 b) (bytes_high_first 8 1) ++ (drop 16 s0 ++ drop 8 b))
    (cipher_is_computed key128 (take 16 s0) words128 is_key128 block schedule128) ∙ refl

-- the register after step 2
s2 : List ℕ
s2 =
    0x06 ∷ 0xba ∷ 0x4e ∷ 0xbd ∷ 0xe7 ∷ 0x76 ∷ 0x8d ∷ 0x09 ∷ 0x74 ∷ 0xce ∷ 0x86 ∷ 0xfb ∷ 0xd7 ∷ 0xb8 ∷ 0x05
    ∷ 0xe7 ∷
    0xd1 ∷ 0x32 ∷ 0xee ∷ 0x38 ∷ 0x14 ∷ 0x7e ∷ 0x76 ∷ 0xf8 ∷ []

step2 : step key128 2 s1 ≡ s2
unfolding key128 words128 cipher_computed rounds_computed add_round_key shift_rows sub_by_table
    mix_by_doubling s1 s2 step xor_bytes
step2 =
    let block : IsBlock (take 16 s1) = record { length_is = refl; bytes = all_small (take 16 s1) refl } in
    ap (λ b. xor_bytes (take 8 b) (bytes_high_first 8 2) ++ (drop 16 s1 ++ drop 8 b))
    (cipher_is_computed key128 (take 16 s1) words128 is_key128 block schedule128) ∙ refl

-- the register after step 3
s3 : List ℕ
s3 =
    0xfc ∷ 0x96 ∷ 0x76 ∷ 0x27 ∷ 0xbe ∷ 0x93 ∷ 0x72 ∷ 0x0b ∷ 0xd1 ∷ 0x32 ∷ 0xee ∷ 0x38 ∷ 0x14 ∷ 0x7e ∷ 0x76
    ∷ 0xf8 ∷
    0xfe ∷ 0x6e ∷ 0x8d ∷ 0x67 ∷ 0x9c ∷ 0x5d ∷ 0x34 ∷ 0x60 ∷ []

step3 : step key128 3 s2 ≡ s3
unfolding key128 words128 cipher_computed rounds_computed add_round_key shift_rows sub_by_table
    mix_by_doubling s2 s3 step xor_bytes
step3 =
    let block : IsBlock (take 16 s2) = record { length_is = refl; bytes = all_small (take 16 s2) refl } in
    ap (λ b. xor_bytes (take 8 b) (bytes_high_first 8 3) ++ (drop 16 s2 ++ drop 8 b))
    (cipher_is_computed key128 (take 16 s2) words128 is_key128 block schedule128) ∙ refl

-- the register after step 4
s4 : List ℕ
s4 =
    0x58 ∷ 0x96 ∷ 0xea ∷ 0x90 ∷ 0x28 ∷ 0xee ∷ 0x20 ∷ 0x3f ∷ 0xfe ∷ 0x6e ∷ 0x8d ∷ 0x67 ∷ 0x9c ∷ 0x5d ∷ 0x34
    ∷ 0x60 ∷
    0x07 ∷ 0xb2 ∷ 0xbd ∷ 0x97 ∷ 0x3e ∷ 0x36 ∷ 0xa6 ∷ 0xfc ∷ []

step4 : step key128 4 s3 ≡ s4
unfolding key128 words128 cipher_computed rounds_computed add_round_key shift_rows sub_by_table
    mix_by_doubling s3 s4 step xor_bytes
step4 =
    let block : IsBlock (take 16 s3) = record { length_is = refl; bytes = all_small (take 16 s3) refl } in
    ap (λ b. xor_bytes (take 8 b) (bytes_high_first 8 4) ++ (drop 16 s3 ++ drop 8 b))
    (cipher_is_computed key128 (take 16 s3) words128 is_key128 block schedule128) ∙ refl

-- the register after step 5
s5 : List ℕ
s5 =
    0x93 ∷ 0xae ∷ 0xa7 ∷ 0x1b ∷ 0x25 ∷ 0x8d ∷ 0x90 ∷ 0xc6 ∷ 0x07 ∷ 0xb2 ∷ 0xbd ∷ 0x97 ∷ 0x3e ∷ 0x36 ∷ 0xa6
    ∷ 0xfc ∷
    0x25 ∷ 0xf5 ∷ 0xa3 ∷ 0xad ∷ 0xc2 ∷ 0x19 ∷ 0x54 ∷ 0x01 ∷ []

step5 : step key128 5 s4 ≡ s5
unfolding key128 words128 cipher_computed rounds_computed add_round_key shift_rows sub_by_table
    mix_by_doubling s4 s5 step xor_bytes
step5 =
    let block : IsBlock (take 16 s4) = record { length_is = refl; bytes = all_small (take 16 s4) refl } in
    ap (λ b. xor_bytes (take 8 b) (bytes_high_first 8 5) ++ (drop 16 s4 ++ drop 8 b))
    (cipher_is_computed key128 (take 16 s4) words128 is_key128 block schedule128) ∙ refl

-- the register after step 6
s6 : List ℕ
s6 =
    0xe3 ∷ 0xee ∷ 0x98 ∷ 0x63 ∷ 0x44 ∷ 0xd8 ∷ 0x78 ∷ 0xf1 ∷ 0x25 ∷ 0xf5 ∷ 0xa3 ∷ 0xad ∷ 0xc2 ∷ 0x19 ∷ 0x54
    ∷ 0x01 ∷
    0xf1 ∷ 0x48 ∷ 0x63 ∷ 0xbb ∷ 0x1e ∷ 0x9c ∷ 0xa9 ∷ 0x0a ∷ []

step6 : step key128 6 s5 ≡ s6
unfolding key128 words128 cipher_computed rounds_computed add_round_key shift_rows sub_by_table
    mix_by_doubling s5 s6 step xor_bytes
step6 =
    let block : IsBlock (take 16 s5) = record { length_is = refl; bytes = all_small (take 16 s5) refl } in
    ap (λ b. xor_bytes (take 8 b) (bytes_high_first 8 6) ++ (drop 16 s5 ++ drop 8 b))
    (cipher_is_computed key128 (take 16 s5) words128 is_key128 block schedule128) ∙ refl

-- the register after step 7
s7 : List ℕ
s7 =
    0x2b ∷ 0xfc ∷ 0x21 ∷ 0xb2 ∷ 0xc2 ∷ 0x0e ∷ 0x40 ∷ 0x01 ∷ 0xf1 ∷ 0x48 ∷ 0x63 ∷ 0xbb ∷ 0x1e ∷ 0x9c ∷ 0xa9
    ∷ 0x0a ∷
    0xb5 ∷ 0x56 ∷ 0xd3 ∷ 0x5e ∷ 0xd8 ∷ 0xce ∷ 0xf0 ∷ 0x52 ∷ []

step7 : step key128 7 s6 ≡ s7
unfolding key128 words128 cipher_computed rounds_computed add_round_key shift_rows sub_by_table
    mix_by_doubling s6 s7 step xor_bytes
step7 =
    let block : IsBlock (take 16 s6) = record { length_is = refl; bytes = all_small (take 16 s6) refl } in
    ap (λ b. xor_bytes (take 8 b) (bytes_high_first 8 7) ++ (drop 16 s6 ++ drop 8 b))
    (cipher_is_computed key128 (take 16 s6) words128 is_key128 block schedule128) ∙ refl

-- the register after step 8
s8 : List ℕ
s8 =
    0x4b ∷ 0xe8 ∷ 0xce ∷ 0x99 ∷ 0xc0 ∷ 0xa4 ∷ 0x3a ∷ 0x75 ∷ 0xb5 ∷ 0x56 ∷ 0xd3 ∷ 0x5e ∷ 0xd8 ∷ 0xce ∷ 0xf0
    ∷ 0x52 ∷
    0x64 ∷ 0xba ∷ 0xe5 ∷ 0x81 ∷ 0x8d ∷ 0x05 ∷ 0x70 ∷ 0xbb ∷ []

step8 : step key128 8 s7 ≡ s8
unfolding key128 words128 cipher_computed rounds_computed add_round_key shift_rows sub_by_table
    mix_by_doubling s7 s8 step xor_bytes
step8 =
    let block : IsBlock (take 16 s7) = record { length_is = refl; bytes = all_small (take 16 s7) refl } in
    ap (λ b. xor_bytes (take 8 b) (bytes_high_first 8 8) ++ (drop 16 s7 ++ drop 8 b))
    (cipher_is_computed key128 (take 16 s7) words128 is_key128 block schedule128) ∙ refl

-- the register after step 9
s9 : List ℕ
s9 =
    0xeb ∷ 0xe1 ∷ 0xce ∷ 0x91 ∷ 0x06 ∷ 0x70 ∷ 0x24 ∷ 0xfa ∷ 0x64 ∷ 0xba ∷ 0xe5 ∷ 0x81 ∷ 0x8d ∷ 0x05 ∷ 0x70
    ∷ 0xbb ∷
    0xbe ∷ 0x11 ∷ 0x4b ∷ 0x34 ∷ 0x3e ∷ 0xb0 ∷ 0x09 ∷ 0x81 ∷ []

step9 : step key128 9 s8 ≡ s9
unfolding key128 words128 cipher_computed rounds_computed add_round_key shift_rows sub_by_table
    mix_by_doubling s8 s9 step xor_bytes
step9 =
    let block : IsBlock (take 16 s8) = record { length_is = refl; bytes = all_small (take 16 s8) refl } in
    ap (λ b. xor_bytes (take 8 b) (bytes_high_first 8 9) ++ (drop 16 s8 ++ drop 8 b))
    (cipher_is_computed key128 (take 16 s8) words128 is_key128 block schedule128) ∙ refl

-- the register after step 10
s10 : List ℕ
s10 =
    0x5a ∷ 0x9c ∷ 0x7b ∷ 0x1f ∷ 0x5b ∷ 0x1c ∷ 0x3b ∷ 0x4c ∷ 0xbe ∷ 0x11 ∷ 0x4b ∷ 0x34 ∷ 0x3e ∷ 0xb0 ∷ 0x09
    ∷ 0x81 ∷
    0x4f ∷ 0xd3 ∷ 0xd2 ∷ 0xb7 ∷ 0xd7 ∷ 0x4f ∷ 0xbb ∷ 0x42 ∷ []

step10 : step key128 10 s9 ≡ s10
unfolding key128 words128 cipher_computed rounds_computed add_round_key shift_rows sub_by_table
    mix_by_doubling s9 s10 step xor_bytes
step10 =
    let block : IsBlock (take 16 s9) = record { length_is = refl; bytes = all_small (take 16 s9) refl } in
    ap (λ b. xor_bytes (take 8 b) (bytes_high_first 8 10) ++ (drop 16 s9 ++ drop 8 b))
    (cipher_is_computed key128 (take 16 s9) words128 is_key128 block schedule128) ∙ refl

-- the register after step 11
s11 : List ℕ
s11 =
    0x93 ∷ 0xb7 ∷ 0x19 ∷ 0x67 ∷ 0xee ∷ 0xd4 ∷ 0x1f ∷ 0xf7 ∷ 0x4f ∷ 0xd3 ∷ 0xd2 ∷ 0xb7 ∷ 0xd7 ∷ 0x4f ∷ 0xbb
    ∷ 0x42 ∷
    0xae ∷ 0xf3 ∷ 0x4b ∷ 0xd8 ∷ 0xfb ∷ 0x5a ∷ 0x7b ∷ 0x82 ∷ []

step11 : step key128 11 s10 ≡ s11
unfolding key128 words128 cipher_computed rounds_computed add_round_key shift_rows sub_by_table
    mix_by_doubling s10 s11 step xor_bytes
step11 =
    let block : IsBlock (take 16 s10) = record { length_is = refl; bytes = all_small (take 16 s10) refl } in
    ap (λ b. xor_bytes (take 8 b) (bytes_high_first 8 11) ++ (drop 16 s10 ++ drop 8 b))
    (cipher_is_computed key128 (take 16 s10) words128 is_key128 block schedule128) ∙ refl

-- the register after step 12
s12 : List ℕ
s12 =
    0x1f ∷ 0xa6 ∷ 0x8b ∷ 0x0a ∷ 0x81 ∷ 0x12 ∷ 0xb4 ∷ 0x47 ∷ 0xae ∷ 0xf3 ∷ 0x4b ∷ 0xd8 ∷ 0xfb ∷ 0x5a ∷ 0x7b
    ∷ 0x82 ∷
    0x9d ∷ 0x3e ∷ 0x86 ∷ 0x23 ∷ 0x71 ∷ 0xd2 ∷ 0xcf ∷ 0xe5 ∷ []

step12 : step key128 12 s11 ≡ s12
unfolding key128 words128 cipher_computed rounds_computed add_round_key shift_rows sub_by_table
    mix_by_doubling s11 s12 step xor_bytes
step12 =
    let block : IsBlock (take 16 s11) = record { length_is = refl; bytes = all_small (take 16 s11) refl } in
    ap (λ b. xor_bytes (take 8 b) (bytes_high_first 8 12) ++ (drop 16 s11 ++ drop 8 b))
    (cipher_is_computed key128 (take 16 s11) words128 is_key128 block schedule128) ∙ refl

-- the steps 1 to n, for n from 1 to 12
after1 : steps key128 1 s0 ≡ s1
unfolding steps
after1 = step1

after2 : steps key128 2 s0 ≡ s2
unfolding steps
after2 = ap (step key128 2) after1 ∙ step2

after3 : steps key128 3 s0 ≡ s3
unfolding steps
after3 = ap (step key128 3) after2 ∙ step3

after4 : steps key128 4 s0 ≡ s4
unfolding steps
after4 = ap (step key128 4) after3 ∙ step4

after5 : steps key128 5 s0 ≡ s5
unfolding steps
after5 = ap (step key128 5) after4 ∙ step5

after6 : steps key128 6 s0 ≡ s6
unfolding steps
after6 = ap (step key128 6) after5 ∙ step6

after7 : steps key128 7 s0 ≡ s7
unfolding steps
after7 = ap (step key128 7) after6 ∙ step7

after8 : steps key128 8 s0 ≡ s8
unfolding steps
after8 = ap (step key128 8) after7 ∙ step8

after9 : steps key128 9 s0 ≡ s9
unfolding steps
after9 = ap (step key128 9) after8 ∙ step9

after10 : steps key128 10 s0 ≡ s10
unfolding steps
after10 = ap (step key128 10) after9 ∙ step10

after11 : steps key128 11 s0 ≡ s11
unfolding steps
after11 = ap (step key128 11) after10 ∙ step11

after12 : steps key128 12 s0 ≡ s12
unfolding steps
after12 = ap (step key128 12) after11 ∙ step12

-- the text of RFC 3394, 4.1, and its wrapping under the key 00 01 .. 0f
wrapped : Unwrapped key128 s12 text
unfolding text s0
wrapped = record {
  length_is = record { least = lit≤ tt; whole = refl };
  bytes = record { length_is = refl; bytes = all_small text refl };
  is = sym after12;
}

-- ---- RFC 5649, 6: the text of seven bytes
-- the key
unfoldable pub key192 : List ℕ
key192 =
    0x58 ∷ 0x40 ∷ 0xdf ∷ 0x6e ∷ 0x29 ∷ 0xb0 ∷ 0x2a ∷ 0xf1 ∷ 0xab ∷ 0x49 ∷ 0x3b ∷ 0x70 ∷ 0x5b ∷ 0xf1 ∷ 0x6e
    ∷ 0xa1 ∷
    0xae ∷ 0x83 ∷ 0x38 ∷ 0xf4 ∷ 0xdc ∷ 0xc1 ∷ 0x76 ∷ 0xa8 ∷ []

-- the words of the key's schedule
words192 : List (List ℕ)
words192 =
    (0x58 ∷ 0x40 ∷ 0xdf ∷ 0x6e ∷ []) ∷ (0x29 ∷ 0xb0 ∷ 0x2a ∷ 0xf1 ∷ []) ∷
    (0xab ∷ 0x49 ∷ 0x3b ∷ 0x70 ∷ []) ∷ (0x5b ∷ 0xf1 ∷ 0x6e ∷ 0xa1 ∷ []) ∷
    (0xae ∷ 0x83 ∷ 0x38 ∷ 0xf4 ∷ []) ∷ (0xdc ∷ 0xc1 ∷ 0x76 ∷ 0xa8 ∷ []) ∷
    (0x21 ∷ 0x78 ∷ 0x1d ∷ 0xe8 ∷ []) ∷ (0x08 ∷ 0xc8 ∷ 0x37 ∷ 0x19 ∷ []) ∷
    (0xa3 ∷ 0x81 ∷ 0x0c ∷ 0x69 ∷ []) ∷ (0xf8 ∷ 0x70 ∷ 0x62 ∷ 0xc8 ∷ []) ∷
    (0x56 ∷ 0xf3 ∷ 0x5a ∷ 0x3c ∷ []) ∷ (0x8a ∷ 0x32 ∷ 0x2c ∷ 0x94 ∷ []) ∷
    (0x00 ∷ 0x09 ∷ 0x3f ∷ 0x96 ∷ []) ∷ (0x08 ∷ 0xc1 ∷ 0x08 ∷ 0x8f ∷ []) ∷
    (0xab ∷ 0x40 ∷ 0x04 ∷ 0xe6 ∷ []) ∷ (0x53 ∷ 0x30 ∷ 0x66 ∷ 0x2e ∷ []) ∷
    (0x05 ∷ 0xc3 ∷ 0x3c ∷ 0x12 ∷ []) ∷ (0x8f ∷ 0xf1 ∷ 0x10 ∷ 0x86 ∷ []) ∷
    (0xa5 ∷ 0xc3 ∷ 0x7b ∷ 0xe5 ∷ []) ∷ (0xad ∷ 0x02 ∷ 0x73 ∷ 0x6a ∷ []) ∷
    (0x06 ∷ 0x42 ∷ 0x77 ∷ 0x8c ∷ []) ∷ (0x55 ∷ 0x72 ∷ 0x11 ∷ 0xa2 ∷ []) ∷
    (0x50 ∷ 0xb1 ∷ 0x2d ∷ 0xb0 ∷ []) ∷ (0xdf ∷ 0x40 ∷ 0x3d ∷ 0x36 ∷ []) ∷
    (0xa4 ∷ 0xe4 ∷ 0x7e ∷ 0x7b ∷ []) ∷ (0x09 ∷ 0xe6 ∷ 0x0d ∷ 0x11 ∷ []) ∷
    (0x0f ∷ 0xa4 ∷ 0x7a ∷ 0x9d ∷ []) ∷ (0x5a ∷ 0xd6 ∷ 0x6b ∷ 0x3f ∷ []) ∷
    (0x0a ∷ 0x67 ∷ 0x46 ∷ 0x8f ∷ []) ∷ (0xd5 ∷ 0x27 ∷ 0x7b ∷ 0xb9 ∷ []) ∷
    (0x78 ∷ 0xc5 ∷ 0x28 ∷ 0x78 ∷ []) ∷ (0x71 ∷ 0x23 ∷ 0x25 ∷ 0x69 ∷ []) ∷
    (0x7e ∷ 0x87 ∷ 0x5f ∷ 0xf4 ∷ []) ∷ (0x24 ∷ 0x51 ∷ 0x34 ∷ 0xcb ∷ []) ∷
    (0x2e ∷ 0x36 ∷ 0x72 ∷ 0x44 ∷ []) ∷ (0xfb ∷ 0x11 ∷ 0x09 ∷ 0xfd ∷ []) ∷
    (0xda ∷ 0xc4 ∷ 0x7c ∷ 0x77 ∷ []) ∷ (0xab ∷ 0xe7 ∷ 0x59 ∷ 0x1e ∷ []) ∷
    (0xd5 ∷ 0x60 ∷ 0x06 ∷ 0xea ∷ []) ∷ (0xf1 ∷ 0x31 ∷ 0x32 ∷ 0x21 ∷ []) ∷
    (0xdf ∷ 0x07 ∷ 0x40 ∷ 0x65 ∷ []) ∷ (0x24 ∷ 0x16 ∷ 0x49 ∷ 0x98 ∷ []) ∷
    (0xdd ∷ 0xff ∷ 0x3a ∷ 0x41 ∷ []) ∷ (0x76 ∷ 0x18 ∷ 0x63 ∷ 0x5f ∷ []) ∷
    (0xa3 ∷ 0x78 ∷ 0x65 ∷ 0xb5 ∷ []) ∷ (0x52 ∷ 0x49 ∷ 0x57 ∷ 0x94 ∷ []) ∷
    (0x8d ∷ 0x4e ∷ 0x17 ∷ 0xf1 ∷ []) ∷ (0xa9 ∷ 0x58 ∷ 0x5e ∷ 0x69 ∷ []) ∷
    (0x37 ∷ 0xa7 ∷ 0xc3 ∷ 0x92 ∷ []) ∷ (0x41 ∷ 0xbf ∷ 0xa0 ∷ 0xcd ∷ []) ∷
    (0xe2 ∷ 0xc7 ∷ 0xc5 ∷ 0x78 ∷ []) ∷ (0xb0 ∷ 0x8e ∷ 0x92 ∷ 0xec ∷ []) ∷ []

-- the definition computes these words
schedule192 : schedule_by_table key192 ≡ words192
unfolding key192 words192 words_by_table xor_word rcon residue
schedule192 = refl

-- the key is one of AES
is_key192 : IsKey key192
unfolding key192
is_key192 = record { length_is = inr (inl refl); bytes = all_small key192 refl }

-- the text
unfoldable pub seven : List ℕ
seven = 0x46 ∷ 0x6f ∷ 0x72 ∷ 0x50 ∷ 0x61 ∷ 0x73 ∷ 0x69 ∷ []

-- the published wrapping
unfoldable pub seven_wrapped : List ℕ
seven_wrapped =
    0xaf ∷ 0xbe ∷ 0xb0 ∷ 0xf0 ∷ 0x7d ∷ 0xfb ∷ 0xf5 ∷ 0x41 ∷ 0x92 ∷ 0x00 ∷ 0xf2 ∷ 0xcc ∷ 0xb5 ∷ 0x0b ∷ 0xb2
    ∷ 0x4f ∷ []

-- the block that is encrypted
seven_block : List ℕ
seven_block =
    0xa6 ∷ 0x59 ∷ 0x59 ∷ 0xa6 ∷ 0x00 ∷ 0x00 ∷ 0x00 ∷ 0x07 ∷ 0x46 ∷ 0x6f ∷ 0x72 ∷ 0x50 ∷ 0x61 ∷ 0x73 ∷ 0x69
    ∷ 0x00 ∷ []

-- the block consists of the alternative initial value, the text and one zero byte
seven_start : alternative_value (length seven) ++ padded seven ≡ seven_block
unfolding seven seven_block
seven_start = refl

-- the block is 16 bytes long
seven_is_block : IsBlock seven_block
unfolding seven_block
seven_is_block = record { length_is = refl; bytes = all_small seven_block refl }

-- the cipher of the block is the published wrapping
seven_cipher : cipher key192 seven_block ≡ seven_wrapped
unfolding key192 words192 seven_block seven_wrapped cipher_computed rounds_computed add_round_key shift_rows
    sub_by_table mix_by_doubling
seven_cipher = cipher_is_computed key192 seven_block words192 is_key192 seven_is_block schedule192 ∙ refl

-- the text of RFC 5649, 6, and its wrapping
pub wrapped_padded : UnwrappedPadded key192 seven_wrapped seven
unfolding seven
wrapped_padded = record {
  length_is = record { least = lit≤ tt; most = lit< tt };
  bytes = record { length_is = refl; bytes = all_small seven refl };
  is = sym (ap (transformed key192) seven_start ∙ transformed_one key192 seven_block seven_is_block.length_is
      ∙ seven_cipher);
}
