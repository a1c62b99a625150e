-- A vector file, read and judged by the definitions: a published sealing (RFC 8439, 2.8.2), a published wrapping with padding
-- (RFC 5649, 6), its first half, which is not a valid wrapping, and the wrapping again, which says `invalid` and so disagrees.
use Rattle.std.proofs.Common.{◌≡◌, ℕ, List, [], ◌∷◌, ◌++◌, ◌≤◌, Option, Some, None, refl, sym, subst, arith}
use Rattle.std.proofs.Common.{lit≤, drop}
use Rattle.std.specs.Prelude.{codes}
use Rattle.hex.specs.Hex.{decode_pairs}
use Rattle.aead.specs.declared.suite.Suite.TheVariants.{ChaCha20Poly1305}
use Rattle.aead.specs.Sealing.{sealing, Setting, Opened}
use Rattle.aead.proofs.Vectors.{one_sealing}
use Rattle.aes.proofs.Small.{all_small}
use Rattle.keywrap.specs.Padded.{UnwrappedPadded}
use Rattle.keywrap.proofs.PaddedTexts.{wrapped_long}
use Rattle.keywrap.proofs.Vectors.{key192, seven, seven_wrapped, wrapped_padded}
use Rattle.vectors.specs.declared.suite.Format.TheVariants.{Two}
use Rattle.vectors.specs.declared.suite.Algorithm.TheVariants.{Aead, WrapPad}
use Rattle.vectors.specs.declared.suite.Aes.TheVariants.{Bits192}
use Rattle.vectors.specs.declared.suite.Field.TheVariants.{Key, Nonce, Aad, Sealed}
use Rattle.vectors.specs.Suites.{suite_named}
use Rattle.vectors.specs.Lines.{lines_of}
use Rattle.vectors.specs.Grammar.{Line, Record, field_of, value_line, IsHexField, IsFieldLine, IsFormatLine}
use Rattle.vectors.specs.Grammar.{IsSuiteLine, Fills, Formatted, unread}
use Rattle.vectors.specs.Grammar as grammar
use Rattle.vectors.specs.Reports.{IsReport}
use Rattle.vectors.specs.Reports as reports

-- ---- the sealing
-- the key
key : List ℕ
key =
    0x80 ∷ 0x81 ∷ 0x82 ∷ 0x83 ∷ 0x84 ∷ 0x85 ∷ 0x86 ∷ 0x87 ∷ 0x88 ∷ 0x89 ∷ 0x8a ∷ 0x8b ∷ 0x8c ∷ 0x8d ∷ 0x8e
    ∷ 0x8f ∷
    0x90 ∷ 0x91 ∷ 0x92 ∷ 0x93 ∷ 0x94 ∷ 0x95 ∷ 0x96 ∷ 0x97 ∷ 0x98 ∷ 0x99 ∷ 0x9a ∷ 0x9b ∷ 0x9c ∷ 0x9d ∷ 0x9e
    ∷ 0x9f ∷ []

-- the nonce
nonce : List ℕ
nonce = 0x07 ∷ 0x00 ∷ 0x00 ∷ 0x00 ∷ 0x40 ∷ 0x41 ∷ 0x42 ∷ 0x43 ∷ 0x44 ∷ 0x45 ∷ 0x46 ∷ 0x47 ∷ []

-- the associated data
aad : List ℕ
aad = 0x50 ∷ 0x51 ∷ 0x52 ∷ 0x53 ∷ 0xc0 ∷ 0xc1 ∷ 0xc2 ∷ 0xc3 ∷ 0xc4 ∷ 0xc5 ∷ 0xc6 ∷ 0xc7 ∷ []

-- the text
ladies : List ℕ
ladies =
    codes "Ladies and Gentlemen of the class of '99: If I could offer you "
    ++ codes "only one tip for the future, sunscreen would be it."

-- the published sealing
ladies_sealed : List ℕ
ladies_sealed =
    0xd3 ∷ 0x1a ∷ 0x8d ∷ 0x34 ∷ 0x64 ∷ 0x8e ∷ 0x60 ∷ 0xdb ∷ 0x7b ∷ 0x86 ∷ 0xaf ∷ 0xbc ∷ 0x53 ∷ 0xef ∷ 0x7e
    ∷ 0xc2 ∷
    0xa4 ∷ 0xad ∷ 0xed ∷ 0x51 ∷ 0x29 ∷ 0x6e ∷ 0x08 ∷ 0xfe ∷ 0xa9 ∷ 0xe2 ∷ 0xb5 ∷ 0xa7 ∷ 0x36 ∷ 0xee ∷ 0x62
    ∷ 0xd6 ∷
    0x3d ∷ 0xbe ∷ 0xa4 ∷ 0x5e ∷ 0x8c ∷ 0xa9 ∷ 0x67 ∷ 0x12 ∷ 0x82 ∷ 0xfa ∷ 0xfb ∷ 0x69 ∷ 0xda ∷ 0x92 ∷ 0x72
    ∷ 0x8b ∷
    0x1a ∷ 0x71 ∷ 0xde ∷ 0x0a ∷ 0x9e ∷ 0x06 ∷ 0x0b ∷ 0x29 ∷ 0x05 ∷ 0xd6 ∷ 0xa5 ∷ 0xb6 ∷ 0x7e ∷ 0xcd ∷ 0x3b
    ∷ 0x36 ∷
    0x92 ∷ 0xdd ∷ 0xbd ∷ 0x7f ∷ 0x2d ∷ 0x77 ∷ 0x8b ∷ 0x8c ∷ 0x98 ∷ 0x03 ∷ 0xae ∷ 0xe3 ∷ 0x28 ∷ 0x09 ∷ 0x1b
    ∷ 0x58 ∷
    0xfa ∷ 0xb3 ∷ 0x24 ∷ 0xe4 ∷ 0xfa ∷ 0xd6 ∷ 0x75 ∷ 0x94 ∷ 0x55 ∷ 0x85 ∷ 0x80 ∷ 0x8b ∷ 0x48 ∷ 0x31 ∷ 0xd7
    ∷ 0xbc ∷
    0x3f ∷ 0xf4 ∷ 0xde ∷ 0xf0 ∷ 0x8e ∷ 0x4b ∷ 0x7a ∷ 0x9d ∷ 0xe5 ∷ 0x76 ∷ 0xd2 ∷ 0x65 ∷ 0x86 ∷ 0xce ∷ 0xc6
    ∷ 0x4b ∷
    0x61 ∷ 0x16 ∷ 0x1a ∷ 0xe1 ∷ 0x0b ∷ 0x59 ∷ 0x4f ∷ 0x09 ∷ 0xe2 ∷ 0x6a ∷ 0x7e ∷ 0x90 ∷ 0x2e ∷ 0xcb ∷ 0xd0
    ∷ 0x60 ∷
    0x06 ∷ 0x91 ∷ []

-- the key, the nonce and the associated data
abbrev lady : Setting
lady = record { suite = ChaCha20Poly1305; key = key; nonce = nonce; aad = aad }

-- the definition gives the published sealing
ladies_made : sealing lady ladies ≡ ladies_sealed
unfolding key nonce aad ladies ladies_sealed
ladies_made = one_sealing

-- the published sealing is that of the text
ladies_opened : Opened lady ladies_sealed ladies
unfolding aad ladies
ladies_opened = record {
  fits = record { aad_fits = lit≤ tt; text_fits = lit≤ tt };
  bytes = all_small ladies refl;
  is = sym ladies_made;
}

-- ---- the lines
aead_suite_text : Line
aead_suite_text = codes "suite = chacha20-poly1305"

aead_key_text : Line
aead_key_text = codes "key = 808182838485868788898a8b8c8d8e8f909192939495969798999a9b9c9d9e9f"

nonce_text : Line
nonce_text = codes "nonce = 070000004041424344454647"

aad_text : Line
aad_text = codes "aad = 50515253c0c1c2c3c4c5c6c7"

ladies_sealed_text : Line
ladies_sealed_text =
    codes
    "sealed = d31a8d34648e60db7b86afbc53ef7ec2a4aded51296e08fea9e2b5a736ee62d63dbea45e8ca9671282fafb69da9272"
    ++ codes
    "8b1a71de0a9e060b2905d6a5b67ecd3b3692ddbd7f2d778b8c9803aee328091b58fab324e4fad675945585808b4831d7bc"
    ++ codes "3ff4def08e4b7a9de576d26586cec64b61161ae10b594f09e26a7e902ecbd0600691"

ladies_text : Line
ladies_text =
    codes
    "text = 4c616469657320616e642047656e746c656d656e206f662074686520636c617373206f66202739393a20496620492063"
    ++ codes
    "6f756c64206f6666657220796f75206f6e6c79206f6e652074697020666f7220746865206675747572652c2073756e73"
    ++ codes "637265656e20776f756c642062652069742e"

suite_text : Line
suite_text = codes "suite = aes-192-wrap-pad"

key_text : Line
key_text = codes "key = 5840df6e29b02af1ab493b705bf16ea1ae8338f4dcc176a8"

sealed_text : Line
sealed_text = codes "sealed = afbeb0f07dfbf5419200f2ccb50bb24f"

half_text : Line
half_text = codes "sealed = afbeb0f07dfbf541"

text_text : Line
text_text = codes "text = 466f7250617369"

-- the bytes of a line, followed by a line feed
abbrev fed : Line → List ℕ
fed line = line ++ 10 ∷ []

-- the file
file : List ℕ
file =
    fed (codes "format = 2")
    ++ (fed aead_suite_text ++
    (fed aead_key_text ++ (fed nonce_text ++ (fed aad_text ++ (fed ladies_sealed_text ++ fed ladies_text)))))
    ++ (fed suite_text ++ (fed key_text ++ (fed sealed_text ++ fed text_text)))
    ++ (fed suite_text ++ (fed key_text ++ (fed half_text ++ fed (codes "invalid"))))
    ++ (fed suite_text ++ (fed key_text ++ (fed sealed_text ++ fed (codes "invalid"))))

-- the lines of the file
file_lines : List Line
file_lines =
    codes "format = 2"
    ∷ aead_suite_text ∷ aead_key_text ∷ nonce_text ∷ aad_text ∷ ladies_sealed_text ∷ ladies_text
    ∷ suite_text ∷ key_text ∷ sealed_text ∷ text_text
    ∷ suite_text ∷ key_text ∷ half_text ∷ codes "invalid"
    ∷ suite_text ∷ key_text ∷ sealed_text ∷ codes "invalid" ∷ []

-- the definition cuts the file into these lines
cut : lines_of file ≡ file_lines
unfolding file file_lines lines_of aead_suite_text aead_key_text nonce_text aad_text ladies_sealed_text
    ladies_text suite_text key_text sealed_text half_text text_text
cut = refl

-- ---- the records
-- the suite line of the sealing
aead_suite_line : IsSuiteLine Two aead_suite_text (Aead ChaCha20Poly1305)
unfolding aead_suite_text value_line field_of suite_named
aead_suite_line = record { name = codes "chacha20-poly1305"; field = refl; known = refl }

-- the key line of the sealing
aead_key_line : IsFieldLine (Aead ChaCha20Poly1305) Key aead_key_text key
unfolding aead_key_text value_line field_of decode_pairs key
aead_key_line = record {
  hex =
      record {
        digits = codes "808182838485868788898a8b8c8d8e8f909192939495969798999a9b9c9d9e9f";
        field = refl;
        spelled = refl;
      };
  size = refl;
}

-- the nonce line of the sealing
nonce_line : IsFieldLine (Aead ChaCha20Poly1305) Nonce nonce_text nonce
unfolding nonce_text value_line field_of decode_pairs nonce
nonce_line = record {
  hex =
      record { digits = codes "070000004041424344454647"; field = refl; spelled = refl };
  size = refl;
}

-- the line of the sealing's associated data
aad_line : IsFieldLine (Aead ChaCha20Poly1305) Aad aad_text aad
unfolding aad_text value_line field_of decode_pairs aad
aad_line = record {
  hex = record { digits = codes "50515253c0c1c2c3c4c5c6c7"; field = refl; spelled = refl };
  size = refl;
}

-- the line of the sealed bytes
ladies_sealed_line : IsFieldLine (Aead ChaCha20Poly1305) Sealed ladies_sealed_text ladies_sealed
unfolding ladies_sealed_text value_line field_of decode_pairs ladies_sealed
ladies_sealed_line = record
    { hex = record { digits = drop 9 ladies_sealed_text; field = refl; spelled = refl }; size = refl }

-- the text line of the sealing
ladies_line : IsHexField ladies_text (codes "text") ladies
unfolding ladies_text value_line field_of decode_pairs ladies
ladies_line = record { digits = drop 7 ladies_text; field = refl; spelled = refl }

-- the record, without and with its text
abbrev sealing_entry : Option (List ℕ) → Record
sealing_entry text = record {
  suite = Aead ChaCha20Poly1305;
  key = key;
  nonce = nonce;
  aad = aad;
  sealed = ladies_sealed;
  text =
      text;
}

-- the suite line of the wrapping
suite_line : IsSuiteLine Two suite_text (WrapPad Bits192)
unfolding suite_text value_line field_of suite_named
suite_line = record { name = codes "aes-192-wrap-pad"; field = refl; known = refl }

-- the key
key_line : IsFieldLine (WrapPad Bits192) Key key_text key192
unfolding key_text value_line field_of decode_pairs key192
key_line = record {
  hex =
      record {
        digits = codes "5840df6e29b02af1ab493b705bf16ea1ae8338f4dcc176a8";
        field = refl;
        spelled =
            refl;
      };
  size = refl;
}

-- the sealed bytes
sealed_line : IsFieldLine (WrapPad Bits192) Sealed sealed_text seven_wrapped
unfolding sealed_text value_line field_of decode_pairs seven_wrapped
sealed_line = record {
  hex =
      record { digits = codes "afbeb0f07dfbf5419200f2ccb50bb24f"; field = refl; spelled = refl };
  size = refl;
}

-- the first half of the sealed bytes
half : List ℕ
half = 0xaf ∷ 0xbe ∷ 0xb0 ∷ 0xf0 ∷ 0x7d ∷ 0xfb ∷ 0xf5 ∷ 0x41 ∷ []

half_line : IsFieldLine (WrapPad Bits192) Sealed half_text half
unfolding half_text value_line field_of decode_pairs half
half_line = record {
  hex = record { digits = codes "afbeb0f07dfbf541"; field = refl; spelled = refl };
  size =
      refl;
}

-- the text
text_line : IsHexField text_text (codes "text") seven
unfolding text_text value_line field_of decode_pairs seven
text_line = record { digits = codes "466f7250617369"; field = refl; spelled = refl }

-- a record of these bytes
abbrev entry : List ℕ → Option (List ℕ) → Record
entry sealed text = record
    { suite = WrapPad Bits192; key = key192; nonce = []; aad = []; sealed = sealed; text = text }

-- the fields of such a record
fields : {line : Line} {bytes : List ℕ} → IsFieldLine (WrapPad Bits192) Sealed line bytes
    → Fills (Key ∷ Sealed ∷ []) (unread (WrapPad Bits192)) (key_text ∷ line ∷ []) (entry bytes None)
fields h = grammar.field key_line (grammar.field h grammar.nothing)

-- the format line
format_line : IsFormatLine (codes "format = 2") Two
unfolding value_line field_of
format_line = record { name = codes "2"; field = refl; known = refl }

-- the records of the file
records : List Record
records = sealing_entry (Some ladies) ∷ entry seven_wrapped (Some seven) ∷ entry half None
    ∷ entry seven_wrapped None ∷ []

-- the lines follow the grammar, and have these records
formatted : Formatted Two file_lines records
unfolding file_lines records
formatted =
    grammar.adds (grammar.adds (grammar.adds (grammar.adds (grammar.starts [] refl format_line)
    (grammar.made aead_suite_line
    (grammar.field aead_key_line (grammar.field nonce_line (grammar.field aad_line
    (grammar.field ladies_sealed_line grammar.nothing)))) (grammar.text_line ladies_line)))
    (grammar.made suite_line (fields sealed_line) (grammar.text_line text_line)))
    (grammar.made suite_line (fields half_line) grammar.invalid))
    (grammar.made suite_line (fields sealed_line) grammar.invalid)

-- ---- the report
-- the half is too short for a wrapping
half_is_none : (text : List ℕ) → ¬ UnwrappedPadded key192 half text
unfolding half
half_is_none text h = few (wrapped_long key192 half text h).0.least where
  few : 16 ≤ 8 → ⊥
  few l = omega (arith, l)

-- four records, of which the fourth disagrees
judged : IsReport (lines_of file) 4 (4 ∷ [])
unfolding records
judged = subst (λ ls. IsReport ls 4 (4 ∷ [])) (sym cut) (record {
  records = records;
  file = record { format = Two; formatted = formatted; some = λ e. absurd cc };
  count_is = refl;
  judged = reports.agrees ladies_opened (reports.agrees wrapped_padded (reports.agrees half_is_none
      (reports.disagrees (λ none. none seven wrapped_padded) reports.ends)));
})
