-- The sealing of RFC 8439, 2.8.2, computed by the definitions.
use Rattle.std.proofs.Common.{◌≡◌, ℕ, ◌%◌, cond, List, [], ◌∷◌, ◌++◌, refl, ap, ap₂, ◌∙◌}
use Rattle.std.specs.Prelude.{codes, nat_le, slice_index}
use Rattle.std.specs.List.{range_with_len}
use Rattle.octets.specs.Bytes.{le, sum_below}
use Rattle.octets.specs.Masked.{masked}
use Rattle.chacha.specs.Block.{add_xor_rotate, quarter_round, column_round, diagonal_round, double_rounds}
use Rattle.chacha.specs.Block.{added, serialized, block_from, initial_state, block}
use Rattle.chacha.specs.Stream.{key_stream_byte}
use Rattle.poly1305.specs.Poly1305.{block_sum, poly1305}
use Rattle.aead.specs.declared.suite.Suite.TheVariants.{ChaCha20Poly1305}
use Rattle.aead.specs.Suites.{ByChaCha}
use Rattle.aead.specs.Sealing.{poly_key, chacha_authenticated, chacha_mask, mask_by, mask, tag_over_by}
use Rattle.aead.specs.Sealing.{tag_by, tag_of, sealing}

-- the key
unfoldable key : List ℕ
key = range_with_len 128 32

-- the nonce
unfoldable nonce : List ℕ
nonce = 7 ∷ 0 ∷ 0 ∷ 0 ∷ 64 ∷ 65 ∷ 66 ∷ 67 ∷ 68 ∷ 69 ∷ 70 ∷ 71 ∷ []

-- the associated data
unfoldable aad : List ℕ
aad = 80 ∷ 81 ∷ 82 ∷ 83 ∷ 192 ∷ 193 ∷ 194 ∷ 195 ∷ 196 ∷ 197 ∷ 198 ∷ 199 ∷ []

-- the text
unfoldable text : List ℕ
text = codes "Ladies and Gentlemen of the class of '99: If I could offer you only one tip for "
    ++ codes "the future, sunscreen would be it."

-- the ciphertext of the text
unfoldable ciphertext : List ℕ
ciphertext =
    211 ∷ 26 ∷ 141 ∷ 52 ∷ 100 ∷ 142 ∷ 96 ∷ 219 ∷ 123 ∷ 134 ∷ 175 ∷ 188 ∷ 83 ∷ 239 ∷ 126 ∷ 194 ∷
    164 ∷ 173 ∷ 237 ∷ 81 ∷ 41 ∷ 110 ∷ 8 ∷ 254 ∷ 169 ∷ 226 ∷ 181 ∷ 167 ∷ 54 ∷ 238 ∷ 98 ∷ 214 ∷
    61 ∷ 190 ∷ 164 ∷ 94 ∷ 140 ∷ 169 ∷ 103 ∷ 18 ∷ 130 ∷ 250 ∷ 251 ∷ 105 ∷ 218 ∷ 146 ∷ 114 ∷ 139 ∷
    26 ∷ 113 ∷ 222 ∷ 10 ∷ 158 ∷ 6 ∷ 11 ∷ 41 ∷ 5 ∷ 214 ∷ 165 ∷ 182 ∷ 126 ∷ 205 ∷ 59 ∷ 54 ∷
    146 ∷ 221 ∷ 189 ∷ 127 ∷ 45 ∷ 119 ∷ 139 ∷ 140 ∷ 152 ∷ 3 ∷ 174 ∷ 227 ∷ 40 ∷ 9 ∷ 27 ∷ 88 ∷
    250 ∷ 179 ∷ 36 ∷ 228 ∷ 250 ∷ 214 ∷ 117 ∷ 148 ∷ 85 ∷ 133 ∷ 128 ∷ 139 ∷ 72 ∷ 49 ∷ 215 ∷ 188 ∷
    63 ∷ 244 ∷ 222 ∷ 240 ∷ 142 ∷ 75 ∷ 122 ∷ 157 ∷ 229 ∷ 118 ∷ 210 ∷ 101 ∷ 134 ∷ 206 ∷ 198 ∷ 75 ∷
    97 ∷ 22 ∷ []

-- the tag of the text
unfoldable tag : List ℕ
tag =
    26 ∷ 225 ∷ 11 ∷ 89 ∷ 79 ∷ 9 ∷ 226 ∷ 106 ∷ 126 ∷ 144 ∷ 46 ∷ 203 ∷ 208 ∷ 96 ∷ 6 ∷ 145 ∷ []

-- the block of the key stream with counter 1
unfoldable block1 : List ℕ
block1 =
    159 ∷ 123 ∷ 233 ∷ 93 ∷ 1 ∷ 253 ∷ 64 ∷ 186 ∷ 21 ∷ 226 ∷ 143 ∷ 251 ∷ 54 ∷ 129 ∷ 10 ∷ 174 ∷
    193 ∷ 192 ∷ 136 ∷ 63 ∷ 9 ∷ 1 ∷ 110 ∷ 222 ∷ 221 ∷ 138 ∷ 208 ∷ 135 ∷ 85 ∷ 130 ∷ 3 ∷ 165 ∷
    78 ∷ 158 ∷ 203 ∷ 56 ∷ 172 ∷ 142 ∷ 94 ∷ 43 ∷ 184 ∷ 218 ∷ 178 ∷ 15 ∷ 250 ∷ 219 ∷ 82 ∷ 232 ∷
    117 ∷ 4 ∷ 178 ∷ 110 ∷ 190 ∷ 105 ∷ 109 ∷ 79 ∷ 96 ∷ 164 ∷ 133 ∷ 207 ∷ 17 ∷ 184 ∷ 27 ∷ 89 ∷ []

-- the definition computes that block
block1_is : block key 1 nonce ≡ block1
unfolding key nonce block1 block block_from initial_state double_rounds column_round diagonal_round
    quarter_round add_xor_rotate added serialized le
block1_is = refl

-- the block with counter 2
unfoldable block2 : List ℕ
block2 =
    252 ∷ 177 ∷ 196 ∷ 95 ∷ 66 ∷ 25 ∷ 238 ∷ 172 ∷ 236 ∷ 106 ∷ 222 ∷ 195 ∷ 78 ∷ 102 ∷ 105 ∷ 120 ∷
    142 ∷ 219 ∷ 65 ∷ 196 ∷ 156 ∷ 163 ∷ 1 ∷ 225 ∷ 39 ∷ 224 ∷ 172 ∷ 171 ∷ 59 ∷ 68 ∷ 185 ∷ 207 ∷
    92 ∷ 134 ∷ 187 ∷ 149 ∷ 224 ∷ 107 ∷ 13 ∷ 242 ∷ 144 ∷ 26 ∷ 182 ∷ 69 ∷ 228 ∷ 171 ∷ 230 ∷ 34 ∷
    21 ∷ 56 ∷ 12 ∷ 3 ∷ 206 ∷ 53 ∷ 108 ∷ 215 ∷ 166 ∷ 118 ∷ 99 ∷ 251 ∷ 221 ∷ 239 ∷ 255 ∷ 100 ∷ []

-- the definition computes that block
block2_is : block key 2 nonce ≡ block2
unfolding key nonce block2 block block_from initial_state double_rounds column_round diagonal_round
    quarter_round add_xor_rotate added serialized le
block2_is = refl

-- byte i of two blocks, one after the other
abbrev byte_of_two : List ℕ → List ℕ → ℕ → ℕ
byte_of_two a b i = slice_index (cond (nat_le 64 i) b a) (i % 64)

-- the definition computes this ciphertext of the text
ciphertext_is : masked (chacha_mask key nonce) 0 text ≡ ciphertext
unfolding masked key_stream_byte text ciphertext block1 block2
ciphertext_is = ap₂ (λ a b. masked (byte_of_two a b) 0 text) block1_is block2_is ∙ refl

-- the definition computes this tag over the ciphertext
last_is : tag_over_by ByChaCha key nonce aad ciphertext ≡ tag
unfolding key nonce aad ciphertext tag tag_over_by poly_key chacha_authenticated block block_from
    initial_state double_rounds column_round diagonal_round quarter_round add_xor_rotate added serialized
    poly1305 block_sum sum_below le
last_is = refl

-- the tag of the text is this tag
tag_is : tag_by ByChaCha key nonce aad text ≡ tag
unfolding tag_by
tag_is = ap (tag_over_by ByChaCha key nonce aad) ciphertext_is ∙ last_is

-- the ciphertext and the tag are the sealing of the text
both_are : sealing (record { suite = ChaCha20Poly1305; key = key; nonce = nonce; aad = aad }) text
    ≡ ciphertext ++ tag
unfolding sealing tag_of mask mask_by
both_are = ap₂ (λ c t. c ++ t) ciphertext_is tag_is

-- the sealing with its key, nonce, associated data, text and result written out
pub one_sealing : sealing
    (record {
      suite = ChaCha20Poly1305;
      key = range_with_len 128 32;
      nonce =
          (7 ∷ 0 ∷ 0 ∷ 0 ∷ 64 ∷ 65 ∷ 66 ∷ 67 ∷ 68 ∷ 69 ∷ 70 ∷ 71 ∷ []);
      aad =
          (80 ∷ 81 ∷ 82 ∷ 83 ∷ 192 ∷ 193 ∷ 194 ∷ 195 ∷ 196 ∷ 197 ∷ 198 ∷ 199 ∷ []);
    })
    (codes "Ladies and Gentlemen of the class of '99: If I could offer you only one tip for "
    ++ codes "the future, sunscreen would be it.")
    ≡
    (211 ∷ 26 ∷ 141 ∷ 52 ∷ 100 ∷ 142 ∷ 96 ∷ 219 ∷ 123 ∷ 134 ∷ 175 ∷ 188 ∷ 83 ∷ 239 ∷ 126 ∷ 194 ∷
    164 ∷ 173 ∷ 237 ∷ 81 ∷ 41 ∷ 110 ∷ 8 ∷ 254 ∷ 169 ∷ 226 ∷ 181 ∷ 167 ∷ 54 ∷ 238 ∷ 98 ∷ 214 ∷
    61 ∷ 190 ∷ 164 ∷ 94 ∷ 140 ∷ 169 ∷ 103 ∷ 18 ∷ 130 ∷ 250 ∷ 251 ∷ 105 ∷ 218 ∷ 146 ∷ 114 ∷ 139 ∷
    26 ∷ 113 ∷ 222 ∷ 10 ∷ 158 ∷ 6 ∷ 11 ∷ 41 ∷ 5 ∷ 214 ∷ 165 ∷ 182 ∷ 126 ∷ 205 ∷ 59 ∷ 54 ∷
    146 ∷ 221 ∷ 189 ∷ 127 ∷ 45 ∷ 119 ∷ 139 ∷ 140 ∷ 152 ∷ 3 ∷ 174 ∷ 227 ∷ 40 ∷ 9 ∷ 27 ∷ 88 ∷
    250 ∷ 179 ∷ 36 ∷ 228 ∷ 250 ∷ 214 ∷ 117 ∷ 148 ∷ 85 ∷ 133 ∷ 128 ∷ 139 ∷ 72 ∷ 49 ∷ 215 ∷ 188 ∷
    63 ∷ 244 ∷ 222 ∷ 240 ∷ 142 ∷ 75 ∷ 122 ∷ 157 ∷ 229 ∷ 118 ∷ 210 ∷ 101 ∷ 134 ∷ 206 ∷ 198 ∷ 75 ∷
    97 ∷ 22 ∷ 26 ∷ 225 ∷ 11 ∷ 89 ∷ 79 ∷ 9 ∷ 226 ∷ 106 ∷ 126 ∷ 144 ∷ 46 ∷ 203 ∷ 208 ∷ 96 ∷
    6 ∷ 145 ∷ [])
unfolding key nonce aad text ciphertext tag
one_sealing = both_are
